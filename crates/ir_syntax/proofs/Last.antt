-- The last token of a text, and the token at which its first fault stands.
use Rattle.std.specs.Prelude.{nat_eq}
use Rattle.std.proofs.Common.{◌≡◌, ℕ, ◌<◌, Bool, true, false, ◌||◌, Option, Some, None, List, [], ◌∷◌, ◌++◌, length, map, slice_get, inl, inr, refl, sym, ap, ◌∙◌, subst, arith}
use Rattle.grammar.specs.declared.fault.Fault.{Fault}
use Rattle.grammar.specs.declared.fault.Fault.TheVariants.{Unexpected, Broken}
use Rattle.grammar.specs.Grammar.{rep, is_in, has}
use Rattle.grammar.specs.Language.{Derives, Fine, Front, IsFault, Misread}
use Rattle.grammar.proofs.Basics.{append_none}
use Rattle.ir_text.specs.Tokens.{TokensFrom}
use Rattle.ir_text.specs.declared.tok.Tok.{Tok}
use Rattle.ir_text.specs.declared.tok.Tok.TheVariants as tok
use Rattle.ir_text.specs.declared.tok.Span.{Span}
use Rattle.ir_text.specs.declared.tok.LexError.{LexError}
use Rattle.ir_tokens.specs.Classified.{kind_of}
use Rattle.ir_tokens.specs.Texts.{slice, token_of, bad_token}
use Rattle.ir_tokens.specs.Tokens.{tokens}
use Rattle.ir_tokens.specs.code.Kinds.{code}
use Rattle.ir_tokens.specs.Whole.{IsWhole, IsBroken}
use Rattle.ir_tokens.specs.declared.kind.Kind.{Kind}
use Rattle.ir_tokens.specs.declared.kind.Kind.TheVariants as kind
use Rattle.ir_tokens.specs.declared.rule.Rule.{Rule}
use Rattle.ir_tokens.specs.declared.token.Token.{Token}
use Rattle.ir_grammar.specs.declared.tree.ItemSyntax.{ItemSyntax}
use Rattle.ir_grammar.specs.Module.{item, module_text}
use Rattle.ir_syntax.specs.Texts.{AreTokens}
use Rattle.ir_syntax.proofs.Without.{Absent, absent_last, absent_derived, absent_front}
use Rattle.ir_syntax.proofs.Inner.{last_kinds, item_inner}

-- lists

never_empty : (vs : List Token) (v : Token) → [] ≡ vs ++ v ∷ [] → ⊥
never_empty [] v e = cc
never_empty (u ∷ us) v e = cc

pub last_same : (us vs : List Token) (u v : Token) → us ++ u ∷ [] ≡ vs ++ v ∷ [] → u ≡ v
last_same [] [] u v e = cc
last_same [] (w ∷ vs) u v e = let f : [] ≡ vs ++ v ∷ [] = cc in absurd (never_empty vs v f)
last_same (w ∷ us) [] u v e = let f : [] ≡ us ++ u ∷ [] = cc in absurd (never_empty us u f)
last_same (w ∷ us) (z ∷ vs) u v e = last_same us vs u v cc

pub seam_same : (us vs xs ys : List Token) (u v : Token) → us ++ u ∷ xs ≡ vs ++ v ∷ ys → length us ≡ length vs → u ≡ v
seam_same [] [] xs ys u v e n = cc
seam_same [] (w ∷ vs) xs ys u v e n = absurd (omega arith)
seam_same (w ∷ us) [] xs ys u v e n = absurd (omega arith)
seam_same (w ∷ us) (z ∷ vs) xs ys u v e n = let i : length us ≡ length vs = omega arith in let f : us ++ u ∷ xs ≡ vs ++ v ∷ ys = cc in seam_same us vs xs ys u v f i

pub seam_within : (us xs : List Token) (u : Token) → length us < length (us ++ u ∷ xs)
seam_within [] xs u = omega arith
seam_within (w ∷ us) xs u = let i = seam_within us xs u in omega arith

pub seam_read : (us xs : List Token) (u : Token) → slice_get (us ++ u ∷ xs) (length us) ≡ Some u
seam_read [] xs u = refl
seam_read (w ∷ us) xs u = seam_read us xs u

-- the last token

-- the last of the tokens is of one of these kinds
abbrev pub EndsIn : List Kind → List Token → Type 0
EndsIn ks ts = (us : List Token) × (t : Token) × (ts ≡ us ++ t ∷ []) × (is_in tokens t ks ≡ true)

ends_after : (ks : List Kind) (t : Token) (ts : List Token) → EndsIn ks ts → EndsIn ks (t ∷ ts)
ends_after ks t ts e = (t ∷ e.0, e.1, ap (λ z. t ∷ z) e.2, e.3)

end_kind : (k : Tok) (s : List ℕ) → k ≡ tok.End → has tokens (kind.End ∷ []) (kind_of k s) ≡ true
end_kind k s e = subst (λ z. has tokens (kind.End ∷ []) (kind_of z s) ≡ true) (sym e) refl

tokens_end : (bytes : List ℕ) (found : List (Tok × Span)) (at : ℕ) (rest : List ℕ) → TokensFrom at rest found → EndsIn (kind.End ∷ []) (map (token_of bytes) found)
tokens_end bytes [] at rest h = absurd h
tokens_end bytes (f ∷ fs) at rest (inl h) = ([], token_of bytes f, ap (λ z. map (token_of bytes) (f ∷ z)) h.1, end_kind f.0 (slice bytes f.1) h.0.kind)
tokens_end bytes (f ∷ fs) at rest (inr h) = ends_after (kind.End ∷ []) (token_of bytes f) (map (token_of bytes) fs) (tokens_end bytes fs _ h.2 h.4)

ends_along : (ks : List Kind) (ts us : List Token) → ts ≡ us → EndsIn ks us → EndsIn ks ts
ends_along ks ts us e h = subst (EndsIn ks) (sym e) h

whole_ends : (text : List ℕ) (ts : List Token) → IsWhole text ts → EndsIn (kind.End ∷ []) ts
whole_ends text ts h = ends_along (kind.End ∷ []) ts (map (token_of text) h.0) h.2 (tokens_end text h.0 0 text h.1)

broken_ends : (text : List ℕ) (ts : List Token) (error : LexError) → IsBroken text ts error → EndsIn (kind.Bad ∷ []) ts
broken_ends text ts error h = (map (token_of text) h.0, bad_token error, h.2, refl)

more_kinds : (a b : Bool) → (a || false) ≡ true → (a || (b || false)) ≡ true
more_kinds true b e = refl
more_kinds false b e = absurd (cc)

other_kinds : (a b : Bool) → (b || false) ≡ true → (a || (b || false)) ≡ true
other_kinds true b e = refl
other_kinds false b e = e

end_is_last : (t : Token) → is_in tokens t (kind.End ∷ []) ≡ true → is_in tokens t last_kinds ≡ true
end_is_last t = more_kinds (nat_eq (code kind.End) (code t.kind)) (nat_eq (code kind.Bad) (code t.kind))

bad_is_last : (t : Token) → is_in tokens t (kind.Bad ∷ []) ≡ true → is_in tokens t last_kinds ≡ true
bad_is_last t = other_kinds (nat_eq (code kind.End) (code t.kind)) (nat_eq (code kind.Bad) (code t.kind))

-- the tokens of a text end in one of the kinds that no item has
pub text_ends : (text : List ℕ) (ts : List Token) (wrong : Option LexError) → AreTokens text ts wrong → EndsIn last_kinds ts
text_ends text ts None h = let e = whole_ends text ts h in (e.0, e.1, e.2, end_is_last e.1 e.3)
text_ends text ts (Some error) h = let e = broken_ends text ts error h in (e.0, e.1, e.2, bad_is_last e.1 e.3)

-- what has a tree ends at the end of its text

derived_ends : (ts : List Token) (items : List ItemSyntax) → Derives module_text ts items → EndsIn (kind.End ∷ []) ts
unfolding module_text
derived_ends ts items d = let w = d.1 in (w.0, d.0.1, w.2 ∙ ap (λ z. w.0 ++ z) w.4.0, w.4.1)

bad_is_no_end : (t : Token) → is_in tokens t (kind.End ∷ []) ≡ true → (u : Token) → u ≡ t → is_in tokens u (kind.Bad ∷ []) ≡ true → ⊥
bad_is_no_end t a u e b = go (by_code a) (by_code (subst (λ z. is_in tokens z (kind.Bad ∷ []) ≡ true) e b))
  where
    by_code : {c d : ℕ} → (nat_eq c d || false) ≡ true → c ≡ d
    by_code h = grind arith

    go : {d : ℕ} → 0 ≡ d → 1 ≡ d → ⊥
    go h k = omega arith

pub broken_has_no_tree : (text : List ℕ) (ts : List Token) (error : LexError) (items : List ItemSyntax) → IsBroken text ts error → Derives module_text ts items → ⊥
broken_has_no_tree text ts error items h d =
    let b = broken_ends text ts error h in
    let e = derived_ends ts items d in
    bad_is_no_end e.1 e.3 b.1 (last_same b.0 e.0 b.1 e.1 (sym b.2 ∙ e.2)) b.3

-- where the first fault stands

-- k is the number of the tokens before one of these
abbrev pub Stands : List Token → ℕ → Type 0
Stands ts k = (before : List Token) × (t : Token) × (rest : List Token) × (ts ≡ before ++ t ∷ rest) × (k ≡ length before)

-- items have no token of the kind that these end in
no_items_end : (us : List Token) → EndsIn last_kinds us → Absent tokens last_kinds us → ⊥
no_items_end us e h = absent_last tokens last_kinds e.0 e.1 (subst (Absent tokens last_kinds) e.2 h) e.3

-- all the tokens of a text are a viable prefix only where they have a tree
never_short : (us : List Token) → EndsIn last_kinds us → Front module_text Fine us → ((items : List ItemSyntax) → Derives module_text us items → ⊥) → ⊥
unfolding module_text
never_short us e (inl h) none = no_items_end us e (absent_front tokens last_kinds (rep item) item_inner us h)
never_short us e (inr (xs, vs, [], i, d, o)) none = no_items_end us e (absent_derived tokens last_kinds (rep item) item_inner us xs (subst (λ z. Derives (rep item) z xs) (sym (i ∙ append_none vs)) d))
never_short us e (inr (xs, vs, (t ∷ []), i, d, o)) none = none xs ((xs, t), (vs, t ∷ [], i, d, (refl, o.0, o.1)), refl)
never_short us e (inr (xs, vs, (t ∷ u ∷ ws), i, d, o)) none = o

stands_before : (ts us rest : List Token) (f : Fault Rule) (k : ℕ) → EndsIn last_kinds ts → ts ≡ us ++ rest → k ≡ length us → Front module_text Fine us → IsFault module_text us rest f → Stands ts k
stands_before ts us (t ∷ rest) f k e i n h w = (us, t, rest, i, n)
stands_before ts us [] (Broken r) k e i n h w = absurd w
stands_before ts us [] (Unexpected d) k e i n h w = absurd (never_short us (subst (EndsIn last_kinds) (i ∙ append_none us) e) h w.0)

-- The first fault of the tokens of a text stands at one of them.
pub fault_stands : (ts : List Token) (f : Fault Rule) (k : ℕ) → EndsIn last_kinds ts → Misread module_text ts f k → Stands ts k
fault_stands ts f k e m = stands_before ts m.0 m.1 f k e m.2 m.3 m.4 m.5

pub stands_within : (ts : List Token) (k : ℕ) → Stands ts k → k < length ts
stands_within ts k s = rw (s.3, s.4) (seam_within s.0 s.2 s.1)

pub stands_read : (ts : List Token) (k : ℕ) → (s : Stands ts k) → slice_get ts k ≡ Some s.1
stands_read ts k s = subst (λ z. slice_get ts z ≡ Some s.1) (sym s.4) (subst (λ z. slice_get z (length s.0) ≡ Some s.1) (sym s.3) (seam_read s.0 s.2 s.1))
