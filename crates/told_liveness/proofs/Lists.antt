-- Tests of the elements of a list, and lists that are put together of parts with numbers.
use Rattle.std.proofs.Common.{◌≡◌, inl, inr, ⊎_elim, ℕ, zero, suc, ◌<◌, Bool, true, List, [], ◌∷◌, ◌++◌, sym, subst, arith, Contains, true≢false}
use Rattle.std.specs.List.{list_any}
use Rattle.std.proofs.lemmas.Bool.{or_cases, or_left, or_right, cases_eq}
use Rattle.std.proofs.lemmas.List.Elements.{Contains-append_left, Contains-append_right}
use Rattle.name_flow.proofs.Members.{here, there, cases, none}

-- an element that passes the test
pub record Passing {A : Type 0} (test : A → Bool) (xs : List A) : Type 0 where
  pub of : A
  pub within : Contains xs of
  pub passes : test of ≡ true

module _ {A : Type 0} (test : A → Bool) where
  -- a list that passes has such an element
  pub any-has : (xs : List A) → list_any test xs ≡ true → Passing test xs
  any-has [] e = absurd (true≢false (sym e))
  any-has (x ∷ xs) e = elim (or_cases (test x) (list_any test xs) e) [ inl h ↦ record { of = x; within = here x xs; passes = h } | inr m ↦ later (any-has xs m) ]
    where
      later : Passing test xs → Passing test (x ∷ xs)
      later h = record { of = h.of; within = there x h.of xs h.within; passes = h.passes }

  -- and one with such an element passes
  pub has-any : (xs : List A) (x : A) → Contains xs x → test x ≡ true → list_any test xs ≡ true
  has-any [] x c e = absurd (none x c)
  has-any (y ∷ xs) x c e =
      ⊎_elim (λ (s : y ≡ x). or_left (test y) (list_any test xs) (subst (λ z. test z ≡ true) (sym s) e))
      (λ (m : Contains xs x). or_right (test y) (list_any test xs) (has-any xs x m e)) (cases y x xs c)

-- where the elements that pass a test pass another, so does a list
pub any-rises : {A : Type 0} (test more : A → Bool) (xs : List A) → ((x : A) → Contains xs x → test x ≡ true → more x ≡ true) → list_any test xs ≡ true → list_any more xs ≡ true
any-rises test more xs rises e = let h = any-has test xs e in has-any more xs h.of h.within (rises h.of h.within h.passes)

-- the lists of all numbers below n, the last first
abbrev pub all_below : {A : Type 0} → ℕ → (ℕ → List A) → List A
all_below zero part = []
all_below (suc n) part = part n ++ all_below n part

-- they have what each of them has
pub below-has : {A : Type 0} (n : ℕ) (part : ℕ → List A) (k : ℕ) (x : A) → k < n → Contains (part k) x → Contains (all_below n part) x
below-has zero part k x lt c = absurd (omega (arith, lt))
below-has (suc n) part k x lt c = ⊎_elim last (λ ne. before (below-has n part k x (omega (arith, lt, ne)) c)) (cases_eq k n)
  where
    last : k ≡ n → Contains (all_below (suc n) part) x
    last e = Contains-append_left (part n) (all_below n part) x (subst (λ j. Contains (part j) x) e c)

    before : Contains (all_below n part) x → Contains (all_below (suc n) part) x
    before m = Contains-append_right (part n) (all_below n part) x m
