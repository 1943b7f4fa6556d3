-- Where instructions stand in a list that is put together from pieces.
use Rattle.std.proofs.Common.{◌≡◌, ℕ, zero, suc, ◌+◌, Some, List, [], ◌∷◌, ◌++◌, length, ap, subst, arith, length-append, append_assoc}
use Rattle.std.specs.Prelude.{⊤, slice_get}

-- these stand in the list from this index on
abbrev pub StandAt : {A : Type 0} → List A → ℕ → List A → Type 0
StandAt is j [] = ⊤
StandAt is j (x ∷ xs) = (slice_get is j ≡ Some x) × StandAt is (j + 1) xs

module _ {A : Type 0} where
  pub get-behind : (pre : List A) (x : A) (rest : List A) (n : ℕ) → n ≡ length pre → slice_get (pre ++ x ∷ rest) n ≡ Some x
  get-behind [] x rest n e = ap (slice_get (x ∷ rest)) e
  get-behind (y ∷ pre) x rest zero e = absurd (omega arith)
  get-behind (y ∷ pre) x rest (suc n) e = get-behind pre x rest n (omega arith)

  pub stand-behind : (pre xs rest : List A) (n : ℕ) → n ≡ length pre → StandAt (pre ++ (xs ++ rest)) n xs
  stand-behind pre [] rest n e = tt
  stand-behind pre (x ∷ xs) rest n e =
      (get-behind pre x (xs ++ rest) n e, subst (λ l. StandAt l (n + 1) xs) (append_assoc pre (x ∷ []) (xs ++ rest)) (stand-behind (pre ++ x ∷ []) xs rest (n + 1) (let h = length-append pre (x ∷ []) in omega (arith, h, e))))

  pub stand-front : (is : List A) (n : ℕ) (xs ys : List A) → StandAt is n (xs ++ ys) → StandAt is n xs
  stand-front is n [] ys s = tt
  stand-front is n (x ∷ xs) ys s = (s.0, stand-front is (n + 1) xs ys s.1)

  pub stand-rest : (is : List A) (n : ℕ) (xs ys : List A) (m : ℕ) → m ≡ n + length xs → StandAt is n (xs ++ ys) → StandAt is m ys
  stand-rest is n [] ys m e s = subst (λ q. StandAt is q ys) (let z : n ≡ m = omega (arith, e) in z) s
  stand-rest is n (x ∷ xs) ys m e s = stand-rest is (n + 1) xs ys m (omega (arith, e)) s.1
