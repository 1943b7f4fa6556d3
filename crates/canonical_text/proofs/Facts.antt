-- Tests over lists.
use Rattle.std.proofs.Common.{◌≡◌, ℕ, zero, suc, ◌<◌, Bool, true, Option, None, Some, List, [], ◌∷◌, ◌++◌, length, refl, arith}
use Rattle.std.specs.Prelude.{◌&&◌, map, flat_map, take, slice_get}
use Rattle.std.specs.List.{list_all}
use Rattle.std.proofs.lemmas.Bool.{and_parts, and_from}

pub first_all : {A : Type 0} (p : A → Bool) (xs ys : List A) → list_all p (xs ++ ys) ≡ true → list_all p xs ≡ true
first_all p [] ys h = refl
first_all p (x ∷ xs) ys h =
    let w = and_parts (p x) (list_all p (xs ++ ys)) h in
    and_from (p x) (list_all p xs) w.0 (first_all p xs ys w.1)

pub second_all : {A : Type 0} (p : A → Bool) (xs ys : List A) → list_all p (xs ++ ys) ≡ true → list_all p ys ≡ true
second_all p [] ys h = h
second_all p (x ∷ xs) ys h = second_all p xs ys (and_parts (p x) (list_all p (xs ++ ys)) h).1

pub all_mapped : {A B : Type 0} (p : B → Bool) (f : A → B) (xs : List A) → list_all p (map f xs) ≡ true → list_all (λ x. p (f x)) xs ≡ true
all_mapped p f [] h = refl
all_mapped p f (x ∷ xs) h =
    let w = and_parts (p (f x)) (list_all p (map f xs)) h in
    and_from (p (f x)) (list_all (λ x. p (f x)) xs) w.0 (all_mapped p f xs w.1)

pub all_each : {A B : Type 0} (p : B → Bool) (f : A → List B) (xs : List A) → list_all p (flat_map f xs) ≡ true → list_all (λ x. list_all p (f x)) xs ≡ true
all_each p f [] h = refl
all_each p f (x ∷ xs) h =
    and_from (list_all p (f x)) (list_all (λ x. list_all p (f x)) xs) (first_all p (f x) (flat_map f xs) h) (all_each p f xs (second_all p (f x) (flat_map f xs) h))

pub all_taken : {A : Type 0} (p : A → Bool) (n : ℕ) (xs : List A) → list_all p xs ≡ true → list_all p (take n xs) ≡ true
all_taken p zero xs h = refl
all_taken p (suc n) [] h = refl
all_taken p (suc n) (x ∷ xs) h =
    let w = and_parts (p x) (list_all p xs) h in
    and_from (p x) (list_all p (take n xs)) w.0 (all_taken p n xs w.1)

pub all_both : {A : Type 0} (p q : A → Bool) (xs : List A) → list_all p xs ≡ true → list_all q xs ≡ true → list_all (λ x. p x && q x) xs ≡ true
all_both p q [] h k = refl
all_both p q (x ∷ xs) h k =
    let v = and_parts (p x) (list_all p xs) h in
    let w = and_parts (q x) (list_all q xs) k in
    and_from (p x && q x) (list_all (λ x. p x && q x) xs) (and_from (p x) (q x) v.0 w.0) (all_both p q xs v.1 w.1)

-- all pass another test that follows
pub all_weaker : {A : Type 0} (p q : A → Bool) (xs : List A) → ((x : A) → p x ≡ true → q x ≡ true) → list_all p xs ≡ true → list_all q xs ≡ true
all_weaker p q [] f h = refl
all_weaker p q (x ∷ xs) f h =
    let w = and_parts (p x) (list_all p xs) h in
    and_from (q x) (list_all q xs) (f x w.0) (all_weaker p q xs f w.1)

-- the item at an index, if there is one
abbrev pub At : {A : Type 0} → (A → Bool) → Option A → Type 0
At p None = Unit {0}
At p (Some x) = p x ≡ true

pub all_at : {A : Type 0} (p : A → Bool) (xs : List A) (i : ℕ) → list_all p xs ≡ true → At p (slice_get xs i)
all_at p [] i h = tt
all_at p (x ∷ xs) zero h = (and_parts (p x) (list_all p xs) h).0
all_at p (x ∷ xs) (suc i) h = all_at p xs i (and_parts (p x) (list_all p xs) h).1

abbrev pub IsThere : {A : Type 0} → Option A → Type 0
IsThere None = ⊥
IsThere (Some x) = Unit {0}

pub there : {A : Type 0} (xs : List A) (i : ℕ) → i < length xs → IsThere (slice_get xs i)
there [] i h = absurd (omega arith)
there (x ∷ xs) zero h = tt
there (x ∷ xs) (suc i) h = there xs i (omega arith)
