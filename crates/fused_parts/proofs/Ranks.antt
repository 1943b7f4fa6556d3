-- Ranks stay below the number of configurations, and fall along a part; and each configuration has a spot.
use Rattle.std.proofs.Common.{◌≡◌, ℕ, zero, suc, ◌<◌, ◌≤◌, Bool, true, false, Some, List, [], ◌∷◌, length, refl, ap, ◌∙◌, arith}
use Rattle.std.specs.Prelude.{slice_get}
use Rattle.fused_parts.specs.Nodes.{Node}
use Rattle.fused_parts.specs.Parts.{Spot, next_spot, spots_from}
use Rattle.fused_parts.specs.Ranks.{goes_on, rank_at}

pub rank-below : (xs : List Node) (bs : List Bool) (i : ℕ) → i < length xs → rank_at xs bs i < length xs
rank-below [] bs i lt = absurd (omega arith)
rank-below (x ∷ []) bs i lt = omega arith
rank-below (x ∷ y ∷ xs) [] i lt = omega arith
rank-below (x ∷ y ∷ xs) (true ∷ bs) zero lt = let h = rank-below (y ∷ xs) bs zero (omega arith) in omega (arith, h)
rank-below (x ∷ y ∷ xs) (false ∷ bs) zero lt = omega arith
rank-below (x ∷ y ∷ xs) (b ∷ bs) (suc i) lt = let h = rank-below (y ∷ xs) bs i (omega arith) in omega (arith, h)

pub rank-falls : (xs : List Node) (bs : List Bool) (i : ℕ) → goes_on xs bs i ≡ true → rank_at xs bs (suc i) < rank_at xs bs i
rank-falls [] bs i h = cc
rank-falls (x ∷ []) bs i h = cc
rank-falls (x ∷ y ∷ xs) [] i h = cc
rank-falls (x ∷ y ∷ xs) (true ∷ bs) zero h = omega arith
rank-falls (x ∷ y ∷ xs) (false ∷ bs) zero h = cc
rank-falls (x ∷ y ∷ xs) (b ∷ bs) (suc i) h = rank-falls (y ∷ xs) bs i h

module _ (nodes : List Node) where
  -- the spot of the next configuration
  pub spot-next : (xs : List Node) (bs : List Bool) (s0 : Spot) (i : ℕ) (x y : Node) (s s' : Spot) → length xs ≤ suc (length bs)
      → slice_get xs i ≡ Some x → slice_get xs (suc i) ≡ Some y → slice_get (spots_from nodes xs bs s0) i ≡ Some s
      → slice_get (spots_from nodes xs bs s0) (suc i) ≡ Some s' → s' ≡ next_spot nodes x (goes_on xs bs i) y s
  spot-next [] bs s0 i x y s s' le g h e e' = cc
  spot-next (a ∷ []) bs s0 zero x y s s' le g h e e' = cc
  spot-next (a ∷ []) bs s0 (suc i) x y s s' le g h e e' = cc
  spot-next (a ∷ c ∷ xs) [] s0 i x y s s' le g h e e' = absurd (omega (arith, le))
  spot-next (a ∷ c ∷ xs) (b ∷ bs) s0 zero x y s s' le g h e e' =
      let p : a ≡ x = cc in
      let q : c ≡ y = cc in
      let z : s0 ≡ s = cc in
      first xs bs (next_spot nodes a b c s0) s' e' ∙ ap (λ n. next_spot nodes n b c s0) p ∙ ap (λ n. next_spot nodes x b n s0) q ∙ ap (next_spot nodes x b y) z
    where
      first : (xs : List Node) (bs : List Bool) (n s' : Spot) → slice_get (spots_from nodes (c ∷ xs) bs n) zero ≡ Some s' → s' ≡ n
      first [] bs n s' e = cc
      first (d ∷ xs) [] n s' e = cc
      first (d ∷ xs) (b ∷ bs) n s' e = cc
  spot-next (a ∷ c ∷ xs) (b ∷ bs) s0 (suc i) x y s s' le g h e e' =
      spot-next (c ∷ xs) bs (next_spot nodes a b c s0) i x y s s' (omega (arith, le)) g h e e'

  pub spot-there : (xs : List Node) (bs : List Bool) (s0 : Spot) (i : ℕ) (x : Node) → length xs ≤ suc (length bs) → slice_get xs i ≡ Some x
      → (s : Spot) × (slice_get (spots_from nodes xs bs s0) i ≡ Some s)
  spot-there [] bs s0 i x le g = cc
  spot-there (a ∷ []) bs s0 zero x le g = (s0, refl)
  spot-there (a ∷ []) bs s0 (suc i) x le g = cc
  spot-there (a ∷ c ∷ xs) [] s0 i x le g = absurd (omega (arith, le))
  spot-there (a ∷ c ∷ xs) (b ∷ bs) s0 zero x le g = (s0, refl)
  spot-there (a ∷ c ∷ xs) (b ∷ bs) s0 (suc i) x le g = spot-there (c ∷ xs) bs (next_spot nodes a b c s0) i x (omega (arith, le)) g
