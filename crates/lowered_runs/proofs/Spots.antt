-- The parts in which configurations stand.
use Rattle.std.proofs.Common.{◌≡◌, ℕ, zero, suc, ◌+◌, ◌≤◌, Bool, true, false, Some, List, [], ◌∷◌, length, sym, ap, ◌∙◌, arith}
use Rattle.std.specs.Prelude.{slice_get}
use Rattle.fused_parts.specs.Nodes.{Node}
use Rattle.fused_parts.specs.Parts.{Spot, next_spot, spots_from}
use Rattle.fused_parts.specs.Ranks.{part_number}

pub spot-part : (nodes xs : List Node) (bs : List Bool) (s0 : Spot) (i : ℕ) (s : Spot) → length xs ≤ suc (length bs)
    → slice_get (spots_from nodes xs bs s0) i ≡ Some s → s.part ≡ s0.part + part_number bs i
spot-part nodes [] bs s0 i s le h = cc
spot-part nodes (x ∷ []) bs s0 zero s le h = let e : s0 ≡ s = cc in ap (λ z. z.part) (sym e) ∙ (let z : s0.part ≡ s0.part + 0 = omega arith in z)
spot-part nodes (x ∷ []) bs s0 (suc i) s le h = cc
spot-part nodes (x ∷ y ∷ xs) [] s0 i s le h = absurd (omega (arith, le))
spot-part nodes (x ∷ y ∷ xs) (b ∷ bs) s0 zero s le h = let e : s0 ≡ s = cc in ap (λ z. z.part) (sym e) ∙ (let z : s0.part ≡ s0.part + 0 = omega arith in z)
spot-part nodes (x ∷ y ∷ xs) (true ∷ bs) s0 (suc i) s le h = spot-part nodes (y ∷ xs) bs (next_spot nodes x true y s0) i s (omega (arith, le)) h
spot-part nodes (x ∷ y ∷ xs) (false ∷ bs) s0 (suc i) s le h =
    let r = spot-part nodes (y ∷ xs) bs (next_spot nodes x false y s0) i s (omega (arith, le)) h in omega (arith, r)
