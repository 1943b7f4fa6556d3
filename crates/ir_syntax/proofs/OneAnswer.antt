-- The answer to a text: it is right, and there is no other.
use Rattle.std.proofs.Common.{◌≡◌, ℕ, ◌<◌, ◌↔◌, Option, Some, None, Result, Ok, Err, IfSome, List, ◌∷◌, ◌++◌, length, slice_get, refl, sym, ap, ◌∙◌, subst}
use Rattle.grammar.specs.declared.fault.Fault.{Fault}
use Rattle.grammar.specs.Language.{Derives, Misread, Answer, Holds}
use Rattle.grammar.specs.Laws.{HoldsOnce}
use Rattle.ir_text.specs.code.Next.{answers}
use Rattle.ir_text.specs.declared.tok.LexError.{LexError}
use Rattle.ir_tokens.specs.Texts.{tokens_of, fault_of}
use Rattle.ir_tokens.specs.Tokens.{tokens}
use Rattle.ir_tokens.specs.Whole.{IsWhole, IsBroken}
use Rattle.ir_tokens.specs.declared.rule.Rule.{Rule}
use Rattle.ir_tokens.specs.declared.token.Token.{Token}
use Rattle.ir_grammar.specs.declared.tree.ItemSyntax.{ItemSyntax}
use Rattle.ir_grammar.specs.Module.{module_text}
use Rattle.ir_syntax.specs.declared.fault.SyntaxFault.{SyntaxFault}
use Rattle.ir_syntax.specs.Refusals.{code_of}
use Rattle.ir_syntax.specs.Texts.{HasTree, AreTokens, HasFault, IsAnswer, HasOneAnswer}
use Rattle.ir_syntax.proofs.Last.{seam_same, Stands, text_ends, broken_has_no_tree, fault_stands, stands_within, stands_read}

-- the tokens of a text as they are scanned, and what is wrong where it goes on with none
abbrev pub scanned : List ℕ → List Token
scanned text = tokens_of text (answers 0 text)

abbrev pub scanned_fault : List ℕ → Option LexError
scanned_fault text = fault_of (answers 0 text)

-- what is said of a fault at a token
abbrev pub told_at : Option LexError → Fault Rule → Token → SyntaxFault
told_at wrong fault t = record { code = code_of wrong fault t.kind; place = t.place }

-- whole texts have these tokens, and texts that break off these
abbrev pub Wholes : Type 0
Wholes = (text : List ℕ) (ts : List Token) → IsWhole text ts ↔ ((scanned text ≡ ts) × (scanned_fault text ≡ None))

abbrev pub Breaks : Type 0
Breaks = (text : List ℕ) (ts : List Token) (error : LexError) → IsBroken text ts error ↔ ((scanned text ≡ ts) × (scanned_fault text ≡ Some error))

module _ (whole : Wholes) (broken : Breaks) where
  as_scanned : (text : List ℕ) (ts : List Token) (wrong : Option LexError) → AreTokens text ts wrong → (scanned text ≡ ts) × (scanned_fault text ≡ wrong)
  as_scanned text ts None h = (whole text ts).0 h
  as_scanned text ts (Some error) h = (broken text ts error).0 h

  are_tokens : (text : List ℕ) (wrong : Option LexError) → scanned_fault text ≡ wrong → AreTokens text (scanned text) wrong
  are_tokens text None e = (whole text (scanned text)).1 (refl, e)
  are_tokens text (Some error) e = (broken text (scanned text) error).1 (refl, e)

  -- what has a tree is whole
  pub tree_of : (text : List ℕ) (items : List ItemSyntax) → Derives module_text (scanned text) items → HasTree text items
  tree_of text items d = go (scanned_fault text) refl
    where
      go : (wrong : Option LexError) → scanned_fault text ≡ wrong → HasTree text items
      go None e = (scanned text, are_tokens text None e, d)
      go (Some error) e = absurd (broken_has_no_tree text (scanned text) error items (are_tokens text (Some error) e) d)

  pub stands : (text : List ℕ) (f : Fault Rule) (k : ℕ) → Misread module_text (scanned text) f k → Stands (scanned text) k
  stands text f k m = fault_stands (scanned text) f k (text_ends text (scanned text) (scanned_fault text) (are_tokens text (scanned_fault text) refl)) m

  pub within : (text : List ℕ) (f : Fault Rule) (k : ℕ) → Misread module_text (scanned text) f k → k < length (scanned text)
  within text f k m = stands_within (scanned text) k (stands text f k m)

  -- a fault of the tokens is told at its token
  fault_at : (text : List ℕ) (f : Fault Rule) (k : ℕ) (told : SyntaxFault) → Misread module_text (scanned text) f k → (s : Stands (scanned text) k) → told ≡ told_at (scanned_fault text) f s.1 → HasFault text told
  fault_at text f k told m s e = (
    scanned_fault text,
    s.0,
    s.1,
    s.2,
    subst (λ z. AreTokens text z (scanned_fault text)) s.3 (are_tokens text (scanned_fault text) refl),
    (f, subst (λ z. Misread module_text z f (length s.0)) s.3 (subst (λ n. Misread module_text (scanned text) f n) s.4 m), e),
  )

  pub fault_of_text : (text : List ℕ) (f : Fault Rule) (k : ℕ) (told : SyntaxFault) → Misread module_text (scanned text) f k → IfSome (slice_get (scanned text) k) (λ t. told ≡ told_at (scanned_fault text) f t) → HasFault text told
  fault_of_text text f k told m h =
      let s = stands text f k m in
      let read = stands_read (scanned text) k s in
      fault_at text f k told m s (subst (λ o. IfSome o (λ t. told ≡ told_at (scanned_fault text) f t)) read h)

  -- the same of tokens that were scanned

  pub tree_found : (text : List ℕ) (ts : List Token) (items : List ItemSyntax) → ts ≡ scanned text → Derives module_text ts items → HasTree text items
  tree_found text ts items e d = tree_of text items (subst (λ z. Derives module_text z items) e d)

  pub found_within : (text : List ℕ) (ts : List Token) (f : Fault Rule) (k : ℕ) → ts ≡ scanned text → Misread module_text ts f k → k < length ts
  found_within text ts f k e m = subst (λ z. k < length z) (sym e) (within text f k (subst (λ z. Misread module_text z f k) e m))

  pub fault_found : (text : List ℕ) (ts : List Token) (wrong : Option LexError) (f : Fault Rule) (k : ℕ) (told : SyntaxFault) → ts ≡ scanned text → wrong ≡ scanned_fault text
      → Misread module_text ts f k → IfSome (slice_get ts k) (λ t. told ≡ told_at wrong f t) → HasFault text told
  fault_found text ts wrong f k told e w m h = fault_of_text text f k told (subst (λ z. Misread module_text z f k) e m)
      (subst (λ z. IfSome (slice_get (scanned text) k) (λ t. told ≡ told_at z f t)) w (subst (λ z. IfSome (slice_get z k) (λ t. told ≡ told_at wrong f t)) e h))

  -- there is no other answer

  tree_scanned : (text : List ℕ) (items : List ItemSyntax) → HasTree text items → Derives module_text (scanned text) items
  tree_scanned text items h = subst (λ z. Derives module_text z items) (sym (as_scanned text h.0 None h.1).0) h.2

  -- a first fault that is told is that of the tokens, at the token that so many stand before
  fault_scanned : (text : List ℕ) (told : SyntaxFault) → HasFault text told → (f : Fault Rule) × (k : ℕ) × Misread module_text (scanned text) f k × ((us : List Token) (u : Token) (vs : List Token) → scanned text ≡ us ++ u ∷ vs → k ≡ length us → told ≡ told_at (scanned_fault text) f u)
  fault_scanned text told (wrong, before, t, rest, h, (f, m, e)) =
      let a = as_scanned text (before ++ t ∷ rest) wrong h in (
        f,
        length before,
        subst (λ z. Misread module_text z f (length before)) (sym a.0) m,
        λ us u vs i n. e ∙ (ap (λ z. told_at z f t) (sym a.1) ∙ ap (told_at (scanned_fault text) f) (seam_same before us rest vs t u (sym a.0 ∙ i) n)),
      )

  fault_in : Fault Rule × ℕ → Answer tokens (List ItemSyntax) → Fault Rule × ℕ
  fault_in d (Ok x) = d
  fault_in d (Err w) = w

  same_fault : (v w : Fault Rule × ℕ) → Err v ≡ (let r : Answer tokens (List ItemSyntax) = Err w in r) → v ≡ w
  unfolding fault_in
  same_fault v w e = ap (fault_in w) e

  same_tree : (x y : List ItemSyntax) → Ok x ≡ (let r : Answer tokens (List ItemSyntax) = Ok y in r) → x ≡ y
  same_tree x y e = cc

  never_both : (x : List ItemSyntax) (w : Fault Rule × ℕ) → Ok x ≡ (let r : Answer tokens (List ItemSyntax) = Err w in r) → ⊥
  never_both x w e = cc

  other_answer : (text : List ℕ) (r : Answer tokens (List ItemSyntax)) → Holds module_text (scanned text) r → ((q : Answer tokens (List ItemSyntax)) → Holds module_text (scanned text) q → q ≡ r) → HasOneAnswer text
  other_answer text (Ok items) d only = (Ok items, tree_of text items d, go)
    where
      go : (q : Result (List ItemSyntax) SyntaxFault) → IsAnswer text q → q ≡ Ok items
      go (Ok x) h = ap Ok (same_tree x items (only (Ok x) (tree_scanned text x h)))
      go (Err told) h = let w = fault_scanned text told h in absurd (never_both items (w.0, w.1) (sym (only (Err (w.0, w.1)) w.2)))
  other_answer text (Err (f, k)) m only = (Err told, fault_at text f k told m s refl, go)
    where
      s : Stands (scanned text) k
      s = stands text f k m

      told : SyntaxFault
      told = told_at (scanned_fault text) f s.1

      go : (q : Result (List ItemSyntax) SyntaxFault) → IsAnswer text q → q ≡ Err told
      go (Ok x) h = absurd (never_both x (f, k) (only (Ok x) (tree_scanned text x h)))
      go (Err other) h =
          let w = fault_scanned text other h in
          let e = same_fault (w.0, w.1) (f, k) (only (Err (w.0, w.1)) w.2) in
          ap Err (w.3 s.0 s.1 s.2 s.3 (ap (λ p. p.1) e ∙ s.4) ∙ ap (λ p. told_at (scanned_fault text) p.0 s.1) e)

  pub one_answer : HoldsOnce module_text → (text : List ℕ) → HasOneAnswer text
  one_answer once text = let o = once (scanned text) in other_answer text o.0 o.1 o.2
