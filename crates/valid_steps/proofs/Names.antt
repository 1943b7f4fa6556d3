-- What changes of names keep: a fact of each name, and their order.
use Rattle.std.proofs.Common.{◌≡◌, ℕ, ◌<◌, ◌≤◌, Bool, true, false, cond, Option, None, Some, [], ◌∷◌, refl, sym, ap, subst, arith}
use Rattle.std.proofs.lemmas.Bool.{eqb-true, eqb-false, ltb-true, ltb-false}
use Rattle.std.specs.Prelude.{◌==◌, if◌then◌else◌, nat_lt, not, filter}
use Rattle.ir_values.specs.declared.ids.LocalId.{LocalId}
use Rattle.static_steps.specs.Configurations.{Each, IsOther, Rises, RisesFrom}
use Rattle.static_steps.specs.Values.{Names, look, put, keep, drop_name, drop_result, put_some, put_result}

pub same-name : (x y : LocalId) → (x.0 == y.0) ≡ true → x ≡ y
same-name x y e = ap (λ n. record { 0 = n }) (eqb-true x.0 y.0 e)

module _ {A : Type 0} where
  module _ (P : LocalId → A → Type 0) where
    pub put-each : (x : LocalId) (a : A) (ns : Names A) → P x a → Each P ns → Each P (put x a ns)
    put-each x a [] p h = (p, tt)
    put-each x a (e ∷ es) p h = by-cell (put-each x a es p h.1) (e.0.0 == x.0) (nat_lt x.0 e.0.0)
      where
        by-cell : Each P (put x a es) → (b l : Bool) → Each P (if b then (x, a) ∷ es else (if l then (x, a) ∷ e ∷ es else e ∷ put x a es))
        by-cell ih true l = (p, h.1)
        by-cell ih false true = (p, h)
        by-cell ih false false = (h.0, ih)

    pub put-result-each : (x : Option LocalId) (a : A) (ns : Names A) → ((y : LocalId) → x ≡ Some y → P y a) → Each P ns → Each P (put_result x a ns)
    put-result-each None a ns p h = h
    put-result-each (Some y) a ns p h = put-each y a ns (p y refl) h

    pub filter-each : (test : LocalId × A → Bool) (ns : Names A) → Each P ns → Each P (filter test ns)
    filter-each test [] h = tt
    filter-each test (e ∷ es) h = by-test (filter-each test es h.1) (test e)
      where
        by-test : Each P (filter test es) → (b : Bool) → Each P (cond b (e ∷ filter test es) (filter test es))
        by-test ih true = (h.0, ih)
        by-test ih false = ih

    pub look-each : (x : LocalId) (ns : Names A) (a : A) → Each P ns → look x ns ≡ Some a → P x a
    look-each x [] a h e = cc
    look-each x (c ∷ cs) a h e = by-cell (λ e'. look-each x cs a h.1 e') (c.0.0 == x.0) refl e
      where
        by-cell : (look x cs ≡ Some a → P x a) → (b : Bool) → (c.0.0 == x.0) ≡ b → (if b then Some c.1 else look x cs) ≡ Some a → P x a
        by-cell ih true q e = let z : c.1 ≡ a = cc in subst (P x) z (subst (λ y. P y c.1) (same-name c.0 x q) h.0)
        by-cell ih false q e = ih e

  pub each-map : (P Q : LocalId → A → Type 0) → ((x : LocalId) (a : A) → P x a → Q x a) → (ns : Names A) → Each P ns → Each Q ns
  each-map P Q k [] h = tt
  each-map P Q k (e ∷ es) h = (k e.0 e.1 h.0, each-map P Q k es h.1)

  -- the names that are kept are those of the test
  pub kept-each : (P : LocalId → A → Type 0) (live : LocalId → Bool) (ns : Names A) → Each P ns → Each (λ x a. P x a × (live x ≡ true)) (keep live ns)
  kept-each P live [] h = tt
  kept-each P live (e ∷ es) h = by-test (kept-each P live es h.1) (live e.0) refl
    where
      by-test : Each (λ x a. P x a × (live x ≡ true)) (keep live es) → (b : Bool) → live e.0 ≡ b → Each (λ x a. P x a × (live x ≡ true)) (cond b (e ∷ keep live es) (keep live es))
      by-test ih true q = ((h.0, q), ih)
      by-test ih false q = ih

  pub dropped-each : (x : Option LocalId) (ns : Names A) → Each (λ y a. IsOther x y) (drop_result x ns)
  dropped-each None [] = tt
  dropped-each None (e ∷ es) = (tt, dropped-each None es)
  dropped-each (Some x) [] = tt
  dropped-each (Some x) (e ∷ es) = by-test (dropped-each (Some x) es) (e.0.0 == x.0) refl
    where
      by-test : Each (λ y a. IsOther (Some x) y) (drop_name x es) → (b : Bool) → (e.0.0 == x.0) ≡ b → Each (λ y a. IsOther (Some x) y) (cond (not b) (e ∷ drop_name x es) (drop_name x es))
      by-test ih true q = ih
      by-test ih false q = ((λ z. eqb-false e.0.0 x.0 q (ap (λ (n : LocalId). n.0) (sym z))), ih)

  pub drop-result-each : (P : LocalId → A → Type 0) (x : Option LocalId) (ns : Names A) → Each P ns → Each P (drop_result x ns)
  drop-result-each P None ns h = h
  drop-result-each P (Some x) ns h = filter-each P (λ e. not (e.0.0 == x.0)) ns h

  -- ---- the order

  lower : (i n : ℕ) (ns : Names A) → i ≤ n → RisesFrom n ns → RisesFrom i ns
  lower i n [] le h = tt
  lower i n (e ∷ es) le h = (let lt = h.0 in omega (arith, le, lt), h.1)

  pub rises-behind : (n : ℕ) (ns : Names A) → RisesFrom n ns → Rises ns
  rises-behind n [] h = tt
  rises-behind n (e ∷ es) h = h.1

  filter-from : (test : LocalId × A → Bool) (n : ℕ) (ns : Names A) → RisesFrom n ns → RisesFrom n (filter test ns)
  filter-from test n [] h = tt
  filter-from test n (e ∷ es) h = by-test (filter-from test e.0.0 es h.1) (test e)
    where
      by-test : RisesFrom e.0.0 (filter test es) → (b : Bool) → RisesFrom n (cond b (e ∷ filter test es) (filter test es))
      by-test ih true = (h.0, ih)
      by-test ih false = lower n e.0.0 (filter test es) (let lt = h.0 in omega (arith, lt)) ih

  pub filter-rises : (test : LocalId × A → Bool) (ns : Names A) → Rises ns → Rises (filter test ns)
  filter-rises test [] h = tt
  filter-rises test (e ∷ es) h = by-test (filter-from test e.0.0 es h) (test e)
    where
      by-test : RisesFrom e.0.0 (filter test es) → (b : Bool) → Rises (cond b (e ∷ filter test es) (filter test es))
      by-test ih true = ih
      by-test ih false = rises-behind e.0.0 (filter test es) ih

  put-from : (x : LocalId) (a : A) (n : ℕ) (ns : Names A) → n < x.0 → RisesFrom n ns → RisesFrom n (put x a ns)
  put-from x a n [] lt h = (lt, tt)
  put-from x a n (e ∷ es) lt h = by-cell (λ lt'. put-from x a e.0.0 es lt' h.1) (e.0.0 == x.0) refl (nat_lt x.0 e.0.0) refl
    where
      by-cell : (e.0.0 < x.0 → RisesFrom e.0.0 (put x a es)) → (b : Bool) → (e.0.0 == x.0) ≡ b → (l : Bool) → nat_lt x.0 e.0.0 ≡ l
          → RisesFrom n (if b then (x, a) ∷ es else (if l then (x, a) ∷ e ∷ es else e ∷ put x a es))
      by-cell ih true q l r = (lt, subst (λ k. RisesFrom k es) (eqb-true e.0.0 x.0 q) h.1)
      by-cell ih false q true r = (lt, (ltb-true x.0 e.0.0 r, h.1))
      by-cell ih false q false r = (h.0, ih (let no = eqb-false e.0.0 x.0 q in let le = ltb-false x.0 e.0.0 r in omega (arith, no, le)))

  pub put-rises : (x : LocalId) (a : A) (ns : Names A) → Rises ns → Rises (put x a ns)
  put-rises x a [] h = tt
  put-rises x a (e ∷ es) h = by-cell (λ lt. put-from x a e.0.0 es lt h) (e.0.0 == x.0) refl (nat_lt x.0 e.0.0) refl
    where
      by-cell : (e.0.0 < x.0 → RisesFrom e.0.0 (put x a es)) → (b : Bool) → (e.0.0 == x.0) ≡ b → (l : Bool) → nat_lt x.0 e.0.0 ≡ l
          → Rises (if b then (x, a) ∷ es else (if l then (x, a) ∷ e ∷ es else e ∷ put x a es))
      by-cell ih true q l r = subst (λ k. RisesFrom k es) (eqb-true e.0.0 x.0 q) h
      by-cell ih false q true r = (ltb-true x.0 e.0.0 r, h)
      by-cell ih false q false r = ih (let no = eqb-false e.0.0 x.0 q in let le = ltb-false x.0 e.0.0 r in omega (arith, no, le))

  pub put-result-rises : (x : Option LocalId) (a : A) (ns : Names A) → Rises ns → Rises (put_result x a ns)
  put-result-rises None a ns h = h
  put-result-rises (Some x) a ns h = put-rises x a ns h

  pub drop-result-rises : (x : Option LocalId) (ns : Names A) → Rises ns → Rises (drop_result x ns)
  drop-result-rises None ns h = h
  drop-result-rises (Some x) ns h = filter-rises (λ e. not (e.0.0 == x.0)) ns h

  -- of a phi, where its operand has a value or none
  pub put-some-rises : (x : LocalId) (o : Option A) (ns : Names A) → Rises ns → Rises (put_some x o ns)
  put-some-rises x None ns h = filter-rises (λ e. not (e.0.0 == x.0)) ns h
  put-some-rises x (Some a) ns h = put-rises x a ns h

  pub put-some-each : (P : LocalId → A → Type 0) (x : LocalId) (o : Option A) (ns : Names A) → ((a : A) → o ≡ Some a → P x a) → Each P ns → Each P (put_some x o ns)
  put-some-each P x None ns p h = filter-each P (λ e. not (e.0.0 == x.0)) ns h
  put-some-each P x (Some a) ns p h = put-each P x a ns (p a refl) h
