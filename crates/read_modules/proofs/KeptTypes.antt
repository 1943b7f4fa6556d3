-- What types keep: they are whole, nest as deep as they may, and no parameter is `void`.
use Rattle.std.specs.Prelude.{if◌then◌else◌, nat_lt, nat_le}
use Rattle.std.proofs.Common.{◌≡◌, ℕ, zero, suc, ◌+◌, ◌≤◌, ◌<◌, Bool, true, false, Option, None, Some, List, [], ◌∷◌, map, refl, sym, subst, arith}
use Rattle.std.proofs.lemmas.Bool.{ltb-true, ltb-false, le-leb, and_from, cond_both}
use Rattle.std.proofs.lemmas.List.{append-nil}
use Rattle.grammar.specs.Grammar.{Grammar}
use Rattle.ir_values.specs.declared.sig.TyWord.TheVariants as word
use Rattle.ir_values.specs.Types.{is_ty, words_of}
use Rattle.ir_module.specs.Numbered.{is_void}
use Rattle.ir_module.specs.Printable.{deepest as deepest_words, voids_return, type_fits}
use Rattle.ir_tokens.specs.declared.kind.Kind.{Kind}
use Rattle.ir_tokens.specs.declared.kind.Kind.TheVariants as kind
use Rattle.ir_tokens.specs.declared.rule.Rule.TheVariants.{TooDeep}
use Rattle.ir_tokens.specs.declared.token.Token.{Token}
use Rattle.ir_tokens.specs.Tokens.{tokens}
use Rattle.ir_grammar.specs.declared.tree.TypeSyntax.{TypeSyntax}
use Rattle.ir_grammar.specs.SideRules.{unless}
use Rattle.ir_grammar.specs.Types.{typed, word_type, width_of, byte_or_text, plain_type, byte_type, qubit_type, result_type, void_type, base_type, shallow, deepest, function_pointer, suffix_of, return_type_of, value_type_of, suffix_at, value_type_at, return_type}
use Rattle.read_modules.proofs.Each.{Each, Each-map, Each-weaker, Each-both}
use Rattle.read_modules.proofs.Keeping.{Keeps, keeps_tok, keeps_seq, keeps_alt, keeps_tree, keeps_dep, keeps_grow, keeps_marked, keeps_any, keeps_listed, keeps_weaker}
use Rattle.read_modules.proofs.WholeTypes.{Nests, nests_word, nests_more, Returns, Takes, signature_whole, signature_nests, signature_returns, signature_takes}

-- a whole type that nests so deep at most
pub record Whole (left : ℕ) (x : TypeSyntax) : Type 0 where
  pub whole : is_ty x.ty ≡ true
  pub nested : x.nesting ≤ left
  pub deep : Nests x.nesting (words_of x.ty)
  pub returned : Returns (words_of x.ty)

-- and neither `void` nor a function pointer type with such a parameter
pub record Solid (left : ℕ) (x : TypeSyntax) : Type 0 where
  pub whole : Whole left x
  pub solid : is_void x.ty ≡ false
  pub taken : Takes (words_of x.ty)

word_solid : (left : ℕ) (k : Kind) (t : Token) → Solid left (typed (word_type k) t)
word_solid left kind.DoubleType t = record { whole = record { whole = refl; nested = omega arith; deep = nests_word word.Double (λ o. refl); returned = record { behind = λ rest. refl } }; solid = refl; taken = record { behind = λ rest. refl } }
word_solid left k t = record { whole = record { whole = refl; nested = omega arith; deep = nests_word (word.Int (width_of k)) (λ o. refl); returned = record { behind = λ rest. refl } }; solid = refl; taken = record { behind = λ rest. refl } }

byte_solid : (left : ℕ) (star : Option Token) (t : Token) → Solid left (typed (byte_or_text star) t)
byte_solid left None t = record { whole = record { whole = refl; nested = omega arith; deep = nests_word (word.Int (width_of kind.I8)) (λ o. refl); returned = record { behind = λ rest. refl } }; solid = refl; taken = record { behind = λ rest. refl } }
byte_solid left (Some star) t = record { whole = record { whole = refl; nested = omega arith; deep = nests_word word.Text (λ o. refl); returned = record { behind = λ rest. refl } }; solid = refl; taken = record { behind = λ rest. refl } }

module _ {P : Token → Type 0} where
  base_kept : (left : ℕ) → Keeps P base_type (Solid left)
  unfolding base_type plain_type byte_type qubit_type result_type
  base_kept left = keeps_alt _ _
      (keeps_tree _ _ (keeps_any _) (λ t _. word_solid left t.kind t))
      (keeps_alt _ _
      (keeps_tree _ _ (keeps_any _) (λ p _. byte_solid left p.1 p.0))
      (keeps_alt _ _
      (keeps_tree _ _ (keeps_any _) (λ t _. record { whole = record { whole = refl; nested = omega arith; deep = nests_word word.Qubit (λ o. refl); returned = record { behind = λ rest. refl } }; solid = refl; taken = record { behind = λ rest. refl } }))
      (keeps_tree _ _ (keeps_any _) (λ t _. record { whole = record { whole = refl; nested = omega arith; deep = nests_word word.Res (λ o. refl); returned = record { behind = λ rest. refl } }; solid = refl; taken = record { behind = λ rest. refl } }))))

  void_kept : (left : ℕ) → Keeps P void_type (Whole left)
  unfolding void_type
  void_kept left = keeps_tree _ _ (keeps_any _) (λ t _. record { whole = refl; nested = omega arith; deep = nests_word word.Void (λ o. refl); returned = record { behind = λ rest. refl } })

-- the greatest nesting is at least each
greater_first : (n m : ℕ) → n ≤ (if nat_lt n m then m else n)
greater_first n m = cond_both (nat_lt n m) m n (λ k. n ≤ k) (λ e. let l = ltb-true n m e in omega arith) (λ e. omega arith)

greater_second : (n m : ℕ) → m ≤ (if nat_lt n m then m else n)
greater_second n m = cond_both (nat_lt n m) m n (λ k. m ≤ k) (λ e. omega arith) (λ e. ltb-false n m e)

greater_below : (b n m : ℕ) → n ≤ b → m ≤ b → (if nat_lt n m then m else n) ≤ b
greater_below b n m h k = cond_both (nat_lt n m) m n (λ l. l ≤ b) (λ e. k) (λ e. h)

deepest_first : (n : ℕ) (xs : List TypeSyntax) → n ≤ deepest n xs
deepest_first n [] = omega arith
deepest_first n (x ∷ xs) =
    let g = greater_first n x.nesting in let d = deepest_first (if nat_lt n x.nesting then x.nesting else n) xs in omega arith

deepest_each : (n : ℕ) (xs : List TypeSyntax) → Each (λ x. x.nesting ≤ deepest n xs) xs
deepest_each n [] = tt
deepest_each n (x ∷ xs) =
    let g = greater_second n x.nesting in let d = deepest_first (if nat_lt n x.nesting then x.nesting else n) xs in
    ((omega arith), deepest_each (if nat_lt n x.nesting then x.nesting else n) xs)

deepest_below : (m n : ℕ) (xs : List TypeSyntax) → n ≤ m → Each (λ x. x.nesting ≤ m) xs → deepest n xs ≤ m
deepest_below m n [] l h = l
deepest_below m n (x ∷ xs) l h =
    deepest_below m (if nat_lt n x.nesting then x.nesting else n) xs (greater_below m n x.nesting l h.0) h.1

-- a function pointer type

pointer_solid : (left : ℕ) (x : TypeSyntax) (params : List TypeSyntax) → Whole (left + 1) x → x.nesting < left + 1 → Each (Solid left) params → Solid (left + 1) (function_pointer x params)
pointer_solid left x params w l h =
    let d = deepest x.nesting params in
    let own = nests_more x.nesting d (words_of x.ty) (deepest_first x.nesting params) w.deep in
    let others = Each-both (λ p. p.nesting ≤ d) (Solid left) (λ p. Nests d (words_of p.ty)) (λ p m s. nests_more p.nesting d (words_of p.ty) m s.whole.deep) params (deepest_each x.nesting params) h in
    let whole = Each-weaker (Solid left) (λ p. is_ty p.ty ≡ true) (λ p s. s.whole.whole) params h in
    let taken = Each-map (λ u. Takes (words_of u)) (λ p. p.ty) params (Each-weaker (Solid left) (λ p. Takes (words_of p.ty)) (λ p s. s.taken) params h) in
    let low = deepest_below left x.nesting params (omega arith) (Each-weaker (Solid left) (λ p. p.nesting ≤ left) (λ p s. s.whole.nested) params h) in
    record {
      whole = record {
        whole = signature_whole x.ty (map (λ p. p.ty) params) w.whole (Each-map (λ u. is_ty u ≡ true) (λ p. p.ty) params whole);
        nested = omega arith;
        deep = signature_nests d x.ty (map (λ p. p.ty) params) own (Each-map (λ u. Nests d (words_of u)) (λ p. p.ty) params others);
        returned = signature_returns x.ty (map (λ p. p.ty) params) w.returned taken;
      };
      solid = refl;
      taken = signature_takes x.ty (map (λ p. p.ty) params) w.returned taken;
    }

shallow_below : (left nesting : ℕ) (t : Token) → shallow left nesting t ≡ None → nesting < left
shallow_below left nesting t e = cond_step (nat_lt nesting left) refl e
  where
    cond_step : (b : Bool) → nat_lt nesting left ≡ b → unless b TooDeep ≡ None → nesting < left
    cond_step true f e = ltb-true nesting left f
    cond_step false f e = absurd (cc)

module _ {P : Token → Type 0} where
  pointer_kept : (left : ℕ) (type : Grammar tokens TypeSyntax) → Keeps P type (Solid left) → (x : TypeSyntax) → Whole (left + 1) x → Keeps P (suffix_of type (left + 1) x) (Solid (left + 1))
  pointer_kept left type h x w =
      keeps_tree _ _ (keeps_seq _ _ (keeps_tok {Q = λ t. x.nesting < left + 1} _ _ (λ t p i e. shallow_below (left + 1) x.nesting t e))
      (keeps_tree {R = Each (Solid left)} _ _ (keeps_seq _ _ (keeps_tree {R = Each (Solid left)} _ _ (keeps_seq _ _ (keeps_listed _ type h) (keeps_any _)) (λ p q. q.0)) (keeps_any _)) (λ p q. q.0)))
      (λ p q. pointer_solid left x p.1 w q.0 q.1)

  value_kept_of : (left : ℕ) (suffix : TypeSyntax → Grammar tokens TypeSyntax) → ((x : TypeSyntax) → Whole left x → Keeps P (suffix x) (Solid left)) → Keeps P (value_type_of suffix) (Solid left)
  value_kept_of left suffix h =
      keeps_marked _ (keeps_tree {R = Solid left} _ _ (keeps_dep {R = λ x y. Solid left y} _ _ _
      (keeps_alt _ _ (base_kept left) (keeps_tree {R = Solid left} _ _ (keeps_dep {R = λ x y. Solid left y} _ _ _ (void_kept left) (λ x w. h x w)) (λ p q. q.1)))
      (λ x s. keeps_grow x _ suffix s (λ y t. h y t.whole))) (λ p q. q.1))

  return_kept_of : (left : ℕ) (suffix : TypeSyntax → Grammar tokens TypeSyntax) → ((x : TypeSyntax) → Whole left x → Keeps P (suffix x) (Solid left)) → Keeps P (return_type_of suffix) (Whole left)
  return_kept_of left suffix h =
      keeps_marked _ (keeps_tree {R = Whole left} _ _ (keeps_dep {R = λ x y. Whole left y} _ _ _
      (keeps_alt _ _ (keeps_weaker _ (base_kept left) (λ x s. s.whole)) (void_kept left))
      (λ x w. keeps_grow x _ suffix w (λ y v. keeps_weaker _ (h y v) (λ z s. s.whole)))) (λ p q. q.1))

  suffix_kept : (left : ℕ) (x : TypeSyntax) → Whole left x → Keeps P (suffix_at left x) (Solid left)
  unfolding suffix_at
  suffix_kept zero x w = keeps_tree _ _ (keeps_tok {Q = λ t. ⊥} _ _ (λ t p i e. absurd (cc))) (λ t q. absurd q)
  suffix_kept (suc left) x w =
      let e : suc left ≡ left + 1 = omega arith in
      let w' : Whole (left + 1) x = subst (λ n. Whole n x) e w in
      let k = pointer_kept left (value_type_of (suffix_at left)) (value_kept_of left (suffix_at left) (suffix_kept left)) x w' in
      subst (λ n. Keeps P (suffix_of (value_type_of (suffix_at left)) n x) (Solid n)) (sym e) k

  pub value_kept : Keeps P (value_type_at 64) (Solid 64)
  unfolding value_type_at
  value_kept = value_kept_of 64 (suffix_at 64) (suffix_kept 64)

  pub return_kept : Keeps P return_type (Whole 64)
  unfolding return_type
  return_kept = return_kept_of 64 (suffix_at 64) (suffix_kept 64)

-- such a type fits

pub whole_fits : (x : TypeSyntax) → Whole 64 x → type_fits x.ty ≡ true
whole_fits x w =
    let d = w.deep.deep [] [] in
    let e = append-nil (words_of x.ty) in
    let n = w.nested in
    let low : deepest_words [] (words_of x.ty) ≤ 64 = subst (λ ws. deepest_words [] ws ≤ 64) e (omega arith) in
    let given = subst (λ ws. voids_return true ws ≡ true) e (w.returned.behind []) in
    and_from (is_ty x.ty) _ w.whole (and_from (nat_le (deepest_words [] (words_of x.ty)) 64) (voids_return true (words_of x.ty)) (le-leb _ _ low) given)
