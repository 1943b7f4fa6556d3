-- Lists by number.
use Rattle.std.proofs.Common.{◌≡◌, ℕ, zero, suc, ◌+◌, ◌<◌, ◌≤◌, List, [], ◌∷◌, ◌++◌, None, Some, length, replicate, slice_get, slice_set, refl, ap, arith}

pub get-left : {A : Type 0} (xs ys : List A) (i : ℕ) → i < length xs → slice_get (xs ++ ys) i ≡ slice_get xs i
get-left [] ys i l = absurd (omega (arith, l))
get-left (x ∷ xs) ys zero l = refl
get-left (x ∷ xs) ys (suc i) l = get-left xs ys i (omega (arith, l))

pub get-last : {A : Type 0} (xs : List A) (y : A) (i : ℕ) → i ≡ length xs → slice_get (xs ++ y ∷ []) i ≡ Some y
get-last [] y zero e = refl
get-last [] y (suc i) e = absurd (omega (arith, e))
get-last (x ∷ xs) y zero e = absurd (omega (arith, e))
get-last (x ∷ xs) y (suc i) e = get-last xs y i (omega (arith, e))

pub get-past : {A : Type 0} (xs : List A) (i : ℕ) → length xs ≤ i → slice_get xs i ≡ None
get-past [] i l = refl
get-past (x ∷ xs) zero l = absurd (omega (arith, l))
get-past (x ∷ xs) (suc i) l = get-past xs i (omega (arith, l))

pub length-last : {A : Type 0} (xs : List A) (y : A) → length (xs ++ y ∷ []) ≡ length xs + 1
length-last [] y = refl
length-last (x ∷ xs) y = let h = length-last xs y in omega (arith, h)

pub get-replicate : {A : Type 0} (n i : ℕ) (x : A) → i < n → slice_get (replicate n x) i ≡ Some x
get-replicate zero i x l = absurd (omega (arith, l))
get-replicate (suc n) zero x l = refl
get-replicate (suc n) (suc i) x l = get-replicate n i x (omega (arith, l))

pub length-replicate : {A : Type 0} (n : ℕ) (x : A) → length (replicate n x) ≡ n
length-replicate zero x = refl
length-replicate (suc n) x = ap suc (length-replicate n x)

pub get-set : {A : Type 0} (xs : List A) (i : ℕ) (x : A) → i < length xs → slice_get (slice_set xs i x) i ≡ Some x
get-set [] i x l = absurd (omega (arith, l))
get-set (y ∷ ys) zero x l = refl
get-set (y ∷ ys) (suc i) x l = get-set ys i x (omega (arith, l))

pub get-other : {A : Type 0} (xs : List A) (i j : ℕ) (x : A) → (i ≡ j → ⊥) → slice_get (slice_set xs i x) j ≡ slice_get xs j
get-other [] i j x d = refl
get-other (y ∷ ys) zero zero x d = absurd (d refl)
get-other (y ∷ ys) zero (suc j) x d = refl
get-other (y ∷ ys) (suc i) zero x d = refl
get-other (y ∷ ys) (suc i) (suc j) x d = get-other ys i j x (λ e. d (ap suc e))

pub length-set : {A : Type 0} (xs : List A) (i : ℕ) (x : A) → length (slice_set xs i x) ≡ length xs
length-set [] i x = refl
length-set (y ∷ ys) zero x = refl
length-set (y ∷ ys) (suc i) x = ap suc (length-set ys i x)

pub set_past : {A : Type 0} (xs : List A) (i : ℕ) (x : A) → length xs ≤ i → slice_set xs i x ≡ xs
set_past [] i x l = refl
set_past (y ∷ ys) zero x l = absurd (omega (arith, l))
set_past (y ∷ ys) (suc i) x l = ap (λ zs. y ∷ zs) (set_past ys i x (omega (arith, l)))
