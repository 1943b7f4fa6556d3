-- Lists by number.
use Rattle.std.proofs.Common.{◌≡◌, ℕ, zero, suc, ◌+◌, List, [], ◌∷◌, ◌++◌, Some, map, take, slice_get, ap, add-one}

take-more : {A B : Type 0} (f : A → B) (xs : List A) (i : ℕ) (x : A) → slice_get xs i ≡ Some x → map f (take (suc i) xs) ≡ map f (take i xs) ++ f x ∷ []
take-more f [] i x e = cc
take-more f (y ∷ ys) zero x e = let same : y ≡ x = cc in ap (λ w. f w ∷ []) same
take-more f (y ∷ ys) (suc i) x e = ap (λ w. f y ∷ w) (take-more f ys i x e)

pub map-take-more : {A B : Type 0} (f : A → B) (xs : List A) (i : ℕ) (x : A) → slice_get xs i ≡ Some x → map f (take (i + 1) xs) ≡ map f (take i xs) ++ f x ∷ []
map-take-more f xs i x e = rw add-one (take-more f xs i x e)
