-- How many elements of a list pass a test, and tests that are passed more often.
use Rattle.std.proofs.Common.{◌≡◌, ⊎_elim, ℕ, ◌+◌, ◌≤◌, Bool, true, false, List, [], ◌∷◌, length, refl, sym, subst, arith, Contains, true≢false}
use Rattle.name_flow.proofs.Members.{cases, none}

-- what an element counts
abbrev one : Bool → ℕ
one true = 1
one false = 0

-- how many pass
abbrev pub count : {A : Type 0} → (A → Bool) → List A → ℕ
count test [] = 0
count test (x ∷ xs) = one (test x) + count test xs

one-at-most : (b : Bool) → one b ≤ 1
one-at-most true = omega arith
one-at-most false = omega arith

one-rises : (b c : Bool) → (b ≡ true → c ≡ true) → one b ≤ one c
one-rises true true h = omega arith
one-rises true false h = absurd (true≢false (sym (h refl)))
one-rises false c h = omega arith

one-same : (b c : Bool) → one b ≡ one c → c ≡ true → b ≡ true
one-same true c e h = refl
one-same false true e h = absurd (omega (arith, e))
one-same false false e h = h

-- no more than there are
pub count-length : {A : Type 0} (test : A → Bool) (xs : List A) → count test xs ≤ length xs
count-length test [] = omega arith
count-length test (x ∷ xs) = let a = one-at-most (test x) in let b = count-length test xs in omega (arith, a, b)

module _ {A : Type 0} (test more : A → Bool) (rises : (x : A) → test x ≡ true → more x ≡ true) where
  -- where more pass, the count rises or stays
  pub count-rises : (xs : List A) → count test xs ≤ count more xs
  count-rises [] = omega arith
  count-rises (x ∷ xs) = let a = one-rises (test x) (more x) (rises x) in let b = count-rises xs in omega (arith, a, b)

  -- where as many pass, the same pass
  pub counts-same : (xs : List A) → count test xs ≡ count more xs → (x : A) → Contains xs x → more x ≡ true → test x ≡ true
  counts-same [] e x c h = absurd (none x c)
  counts-same (y ∷ xs) e x c h =
      let a = one-rises (test y) (more y) (rises y) in
      let b = count-rises xs in
      ⊎_elim (λ (s : y ≡ x). subst (λ z. test z ≡ true) s (one-same (test y) (more y) (omega (arith, a, b, e)) (subst (λ z. more z ≡ true) (sym s) h)))
      (λ (m : Contains xs x). counts-same xs (omega (arith, a, b, e)) x m h) (cases y x xs c)
