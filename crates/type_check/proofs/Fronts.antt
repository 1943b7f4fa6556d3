-- The arcs that lead to one block stand together, so they are the front of what is left of the list in order.
use Rattle.std.proofs.Common.{◌≡◌, zero, suc, ℕ, ◌+◌, ◌≤◌, Bool, true, false, eqb, List, [], ◌∷◌, ◌++◌, length, take, drop, map, Some, slice_get, refl, ap, arith, add-one}
use Rattle.std.specs.Prelude.{if◌then◌else◌}
use Rattle.type_check.specs.code.Arcs.{Arc, lead, front, others}

take-more : {A B : Type 0} (f : A → B) (xs : List A) (i : ℕ) (x : A) → slice_get xs i ≡ Some x → map f (take (suc i) xs) ≡ map f (take i xs) ++ f x ∷ []
take-more f [] i x e = cc
take-more f (y ∷ ys) zero x e = let same : y ≡ x = cc in ap (λ w. f w ∷ []) same
take-more f (y ∷ ys) (suc i) x e = ap (λ w. f y ∷ w) (take-more f ys i x e)

pub map-take-more : {A B : Type 0} (f : A → B) (xs : List A) (i : ℕ) (x : A) → slice_get xs i ≡ Some x → map f (take (i + 1) xs) ≡ map f (take i xs) ++ f x ∷ []
map-take-more f xs i x e = rw add-one (take-more f xs i x e)

pub lead-within : (b : ℕ) (l : List Arc) → lead b l ≤ length l
lead-within b [] = omega arith
lead-within b (t ∷ ts) = by (eqb t.0 b) (lead-within b ts)
  where
    by : (r : Bool) → lead b ts ≤ length ts → (if r then lead b ts + 1 else 0) ≤ length (t ∷ ts)
    by true h = omega arith
    by false h = omega arith

pub take-lead : (b : ℕ) (l : List Arc) → take (lead b l) l ≡ front b l
take-lead b [] = refl
take-lead b (t ∷ ts) = by (eqb t.0 b) (take-lead b ts)
  where
    by : (r : Bool) → take (lead b ts) ts ≡ front b ts → take (if r then lead b ts + 1 else 0) (t ∷ ts) ≡ (if r then t ∷ front b ts else [])
    by true h = rw add-one (ap (λ l. t ∷ l) h)
    by false h = refl

pub drop-lead : (b : ℕ) (l : List Arc) → drop (lead b l) l ≡ others b l
drop-lead b [] = refl
drop-lead b (t ∷ ts) = by (eqb t.0 b) (drop-lead b ts)
  where
    by : (r : Bool) → drop (lead b ts) ts ≡ others b ts → drop (if r then lead b ts + 1 else 0) (t ∷ ts) ≡ (if r then others b ts else t ∷ ts)
    by true h = rw add-one h
    by false h = refl
