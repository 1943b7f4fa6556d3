-- Tests of all of a list, and of one of it.
use Rattle.std.proofs.Common.{◌≡◌, ℕ, zero, suc, Bool, true, false, Option, Some, List, [], ◌∷◌, ◌++◌, map, slice_get, refl, ap, subst}
use Rattle.std.proofs.lemmas.Bool.{and_from, and_parts, or_from, or_parts}
use Rattle.std.specs.List.{list_all, list_any}
use Rattle.std.specs.Prelude.{not}

pub passes-apart : {A : Type 0} (test : A → Bool) (xs ys : List A) → list_all test (xs ++ ys) ≡ true → (list_all test xs ≡ true) × (list_all test ys ≡ true)
passes-apart test [] ys h = (refl, h)
passes-apart test (x ∷ xs) ys h =
    let p = and_parts (test x) (list_all test (xs ++ ys)) h in
    let q = passes-apart test xs ys p.1 in
    (and_from (test x) (list_all test xs) p.0 q.0, q.1)

-- one that all pass is passed by each
pub one-passes : {A : Type 0} (test : A → Bool) (xs : List A) (i : ℕ) (x : A) → list_all test xs ≡ true → slice_get xs i ≡ Some x → test x ≡ true
one-passes test [] i x h e = cc
one-passes test (y ∷ xs) zero x h e = let z : y ≡ x = cc in subst (λ q. test q ≡ true) z (and_parts (test y) (list_all test xs) h).0
one-passes test (y ∷ xs) (suc i) x h e = one-passes test xs i x (and_parts (test y) (list_all test xs) h).1 e

-- where each passes all do
pub each-passes : {A : Type 0} (test : A → Bool) (xs : List A) → ((i : ℕ) (x : A) → slice_get xs i ≡ Some x → test x ≡ true) → list_all test xs ≡ true
each-passes test [] h = refl
each-passes test (x ∷ xs) h = and_from (test x) (list_all test xs) (h 0 x refl) (each-passes test xs (λ i y e. h (suc i) y e))

-- a test that is passed always
pub always : {A : Type 0} (test : A → Bool) → ((x : A) → test x ≡ true) → (xs : List A) → list_all test xs ≡ true
always test h [] = refl
always test h (x ∷ xs) = and_from (test x) (list_all test xs) (h x) (always test h xs)

-- a test that follows from another
pub passes-then : {A : Type 0} (test other : A → Bool) → ((x : A) → test x ≡ true → other x ≡ true) → (xs : List A) → list_all test xs ≡ true → list_all other xs ≡ true
passes-then test other h [] e = refl
passes-then test other h (x ∷ xs) e =
    let p = and_parts (test x) (list_all test xs) e in and_from (other x) (list_all other xs) (h x p.0) (passes-then test other h xs p.1)

pub not-true : (b : Bool) → not b ≡ true → b ≡ false
not-true true e = cc
not-true false e = refl

-- of two lists none passes
pub none-apart : {A : Type 0} (test : A → Bool) (xs ys : List A) → list_any test (xs ++ ys) ≡ false → (list_any test xs ≡ false) × (list_any test ys ≡ false)
none-apart test [] ys h = (refl, h)
none-apart test (x ∷ xs) ys h =
    let p = or_parts (test x) (list_any test (xs ++ ys)) h in
    let q = none-apart test xs ys p.1 in
    (or_from (test x) (list_any test xs) p.0 q.0, q.1)

pub none-at : {A : Type 0} (test : A → Bool) (xs : List A) (i : ℕ) (x : A) → list_any test xs ≡ false → slice_get xs i ≡ Some x → test x ≡ false
none-at test [] i x h e = cc
none-at test (y ∷ xs) zero x h e = let z : y ≡ x = cc in subst (λ q. test q ≡ false) z (or_parts (test y) (list_any test xs) h).0
none-at test (y ∷ xs) (suc i) x h e = none-at test xs i x (or_parts (test y) (list_any test xs) h).1 e

pub get-map : {A B : Type 0} (f : A → B) (xs : List A) (i : ℕ) (x : A) → slice_get xs i ≡ Some x → slice_get (map f xs) i ≡ Some (f x)
get-map f [] i x e = cc
get-map f (y ∷ xs) zero x e = let z : y ≡ x = cc in ap (λ q. Some (f q)) z
get-map f (y ∷ xs) (suc i) x e = get-map f xs i x e

pub same-some : {A : Type 0} (x y : A) → ◌≡◌ {A = Option A} (Some x) (Some y) → x ≡ y
same-some x y e = cc
