-- Looking names up.
use Rattle.std.proofs.Common.{◌≡◌, ℕ, zero, suc, ◌<◌, Bool, true, false, cond, Option, None, Some, List, [], ◌∷◌, length, refl, sym, ap, ◌∙◌, arith, ⊎_elim}
use Rattle.std.proofs.lemmas.Bool.Decides.{eqb_tells}
use Rattle.std.specs.Prelude.{◌==◌, if◌then◌else◌, nat_lt, not, slice_get, slice_set}
use Rattle.ir_values.specs.declared.ids.LocalId.{LocalId}
use Rattle.static_steps.specs.Values.{Names, look, put, keep, drop_name}

pub same-numbers : (a b : ℕ) → (a == b) ≡ true → a ≡ b
same-numbers a b h = ⊎_elim (λ l. l.1) (λ r. absurd (clash (sym h ∙ r.0))) (eqb_tells a b)
  where
    clash : true ≡ false → ⊥
    clash e = cc

pub other-numbers : (a b : ℕ) → (a == b) ≡ false → a ≡ b → ⊥
other-numbers a b h e = ⊎_elim (λ l. clash (sym l.0 ∙ h)) (λ r. r.1 e) (eqb_tells a b)
  where
    clash : true ≡ false → ⊥
    clash e = cc

pub same-itself : (a : ℕ) → (a == a) ≡ true
same-itself a = ⊎_elim (λ l. l.0) (λ r. absurd (r.1 refl)) (eqb_tells a a)

pub differ : (a b : ℕ) → (a ≡ b → ⊥) → (a == b) ≡ false
differ a b h = ⊎_elim (λ l. absurd (h l.1)) (λ r. r.0) (eqb_tells a b)

module _ {A : Type 0} where
  abbrev step : Bool → A → Option A → Option A
  step b a o = if b then Some a else o

  -- the name that was put is found
  pub look-put : (x : LocalId) (a : A) (ns : Names A) → look x (put x a ns) ≡ Some a
  look-put x a [] = ap (λ b. step b a None) (same-itself x.0)
  look-put x a (c ∷ cs) = by-cell (look-put x a cs) (c.0.0 == x.0) refl (nat_lt x.0 c.0.0)
    where
      by-cell : look x (put x a cs) ≡ Some a → (b : Bool) → (c.0.0 == x.0) ≡ b → (l : Bool)
          → look x (if b then (x, a) ∷ cs else (if l then (x, a) ∷ c ∷ cs else c ∷ put x a cs)) ≡ Some a
      by-cell ih true e l = ap (λ b. step b a (look x cs)) (same-itself x.0)
      by-cell ih false e true = ap (λ b. step b a (look x (c ∷ cs))) (same-itself x.0)
      by-cell ih false e false = ap (λ b. step b c.1 (look x (put x a cs))) e ∙ ih

  -- and no other is changed
  pub look-put-other : (x y : LocalId) (a : A) (ns : Names A) → (x.0 == y.0) ≡ false → look y (put x a ns) ≡ look y ns
  look-put-other x y a [] h = ap (λ b. step b a None) h
  look-put-other x y a (c ∷ cs) h = by-cell (look-put-other x y a cs h) (c.0.0 == x.0) refl (nat_lt x.0 c.0.0)
    where
      by-cell : look y (put x a cs) ≡ look y cs → (b : Bool) → (c.0.0 == x.0) ≡ b → (l : Bool)
          → look y (if b then (x, a) ∷ cs else (if l then (x, a) ∷ c ∷ cs else c ∷ put x a cs)) ≡ look y (c ∷ cs)
      by-cell ih true e l =
          let q : (c.0.0 == y.0) ≡ false = differ c.0.0 y.0 (λ k. other-numbers x.0 y.0 h (sym (same-numbers c.0.0 x.0 e) ∙ k)) in
          ap (λ b. step b a (look y cs)) h ∙ ap (λ b. step b c.1 (look y cs)) (sym q)
      by-cell ih false e true = ap (λ b. step b a (look y (c ∷ cs))) h
      by-cell ih false e false = ap (λ o. step (c.0.0 == y.0) c.1 o) ih

  -- the names that are kept
  pub look-keep : (live : LocalId → Bool) (x : LocalId) → live x ≡ true → (ns : Names A) → look x (keep live ns) ≡ look x ns
  look-keep live x l [] = refl
  look-keep live x l (c ∷ cs) = by-cell (look-keep live x l cs) (live c.0) refl
    where
      by-cell : look x (keep live cs) ≡ look x cs → (b : Bool) → live c.0 ≡ b
          → look x (cond b (c ∷ keep live cs) (keep live cs)) ≡ look x (c ∷ cs)
      by-cell ih true e = ap (λ o. step (c.0.0 == x.0) c.1 o) ih
      by-cell ih false e =
          let q : (c.0.0 == x.0) ≡ false = differ c.0.0 x.0 (λ k. clash (sym (ap (λ n. live (record { 0 = n })) k ∙ l) ∙ e)) in
          ih ∙ ap (λ b. step b c.1 (look x cs)) (sym q)
        where
          clash : true ≡ false → ⊥
          clash e = cc

  pub look-drop-other : (x y : LocalId) (ns : Names A) → (x.0 == y.0) ≡ false → look y (drop_name x ns) ≡ look y ns
  look-drop-other x y ns h =
      look-keep (λ n. not (n.0 == x.0)) y (ap not (differ y.0 x.0 (λ k. other-numbers x.0 y.0 h (sym k)))) ns

  pub look-dropped : (x : LocalId) (ns : Names A) → look x (drop_name x ns) ≡ None
  look-dropped x [] = refl
  look-dropped x (c ∷ cs) = by-cell (look-dropped x cs) (c.0.0 == x.0) refl
    where
      by-cell : look x (drop_name x cs) ≡ None → (b : Bool) → (c.0.0 == x.0) ≡ b
          → look x (cond (not b) (c ∷ drop_name x cs) (drop_name x cs)) ≡ None
      by-cell ih true e = ih
      by-cell ih false e = ap (λ b. step b c.1 (look x (drop_name x cs))) e ∙ ih

module _ {A : Type 0} where
  pub set-here : (xs : List A) (i : ℕ) (a : A) → i < length xs → slice_get (slice_set xs i a) i ≡ Some a
  set-here [] i a lt = absurd (omega arith)
  set-here (x ∷ xs) zero a lt = refl
  set-here (x ∷ xs) (suc i) a lt = set-here xs i a (omega arith)

  pub set-elsewhere : (xs : List A) (i j : ℕ) (a : A) → (i ≡ j → ⊥) → slice_get (slice_set xs i a) j ≡ slice_get xs j
  set-elsewhere [] i j a h = refl
  set-elsewhere (x ∷ xs) zero zero a h = absurd (h refl)
  set-elsewhere (x ∷ xs) zero (suc j) a h = refl
  set-elsewhere (x ∷ xs) (suc i) zero a h = refl
  set-elsewhere (x ∷ xs) (suc i) (suc j) a h = set-elsewhere xs i j a (λ e. h (ap suc e))

  pub set-long : (xs : List A) (i : ℕ) (a : A) → length (slice_set xs i a) ≡ length xs
  set-long [] i a = refl
  set-long (x ∷ xs) zero a = refl
  set-long (x ∷ xs) (suc i) a = ap suc (set-long xs i a)
