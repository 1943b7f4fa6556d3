-- A part with parameters is begun by a configuration behind one that ends its part.
use Rattle.std.proofs.Common.{◌≡◌, ◌⊎◌, inl, inr, ⊎_elim, ℕ, zero, suc, ◌<◌, Bool, true, false, Option, None, Some, List, [], ◌∷◌, ◌++◌, length, slice_get, refl, ap, arith}
use Rattle.ir_module.specs.declared.tree.Module.{Module}
use Rattle.residue.specs.declared.parts.Part.{Part}
use Rattle.fused_parts.specs.declared.numbers.Numbers.{Numbers}
use Rattle.fused_parts.specs.Nodes.{Node}
use Rattle.fused_parts.specs.Parts.{next_numbers, no_numbers, nowhere, parts_of, rest_from, shared_part}
use Rattle.fused_parts.specs.Ranks.{goes_on, part_number}

-- the configuration behind this one begins the part of this number
pub record IsBegun (nodes : List Node) (flags : List Bool) (n : ℕ) : Type 0 where
  pub at : ℕ
  pub inside : suc at < length nodes
  pub ends : goes_on nodes flags at ≡ false
  pub number : part_number flags (suc at) ≡ n

-- an element of two lists in a row
in-either : {A : Type 0} (xs ys : List A) (i : ℕ) (x : A) → slice_get (xs ++ ys) i ≡ Some x → (slice_get xs i ≡ Some x) ⊎ ((j : ℕ) × (slice_get ys j ≡ Some x))
in-either [] ys i x e = inr (i, e)
in-either (y ∷ xs) ys zero x e = inl e
in-either (y ∷ xs) ys (suc i) x e = in-either xs ys i x e

-- a part without parameters
bare : (p q : Part) → Some p ≡ Some q → length p.params ≡ 0 → 0 < length q.params → ⊥
bare p q e h lt = let z : p ≡ q = cc in let w = ap (λ (x : Part). length x.params) z in omega (arith, w, h, lt)

module _ (m : Module) (nodes : List Node) (part_of : ℕ → ℕ) (shared : Option ℕ) where
  -- the parts behind the first of these configurations'
  begun-behind : (xs : List Node) (bs : List Bool) (k : Numbers) (n : ℕ) (q : Part) → slice_get (rest_from m nodes part_of shared xs bs k).parts n ≡ Some q → IsBegun xs bs (suc n)
  begun-behind [] bs k n q e = cc
  begun-behind (x ∷ []) bs k n q e = cc
  begun-behind (x ∷ y ∷ xs) [] k n q e = cc
  begun-behind (x ∷ y ∷ xs) (true ∷ bs) k n q e =
      let r = begun-behind (y ∷ xs) bs (next_numbers x true y k) n q e in
      let lt = r.inside in record { at = suc r.at; inside = omega (arith, lt); ends = r.ends; number = r.number }
  begun-behind (x ∷ y ∷ xs) (false ∷ bs) k zero q e = record { at = 0; inside = omega arith; ends = refl; number = refl }
  begun-behind (x ∷ y ∷ xs) (false ∷ bs) k (suc n) q e =
      let r = begun-behind (y ∷ xs) bs (next_numbers x false y k) n q e in
      let lt = r.inside in record { at = suc r.at; inside = omega (arith, lt); ends = r.ends; number = ap suc r.number }

  no-shared : (o : Option ℕ) (j : ℕ) (q : Part) → slice_get (shared_part o) j ≡ Some q → 0 < length q.params → ⊥
  no-shared None j q e lt = cc
  no-shared (Some n) zero q e lt = bare (record { params = []; lines = []; tail = nowhere }) q e refl lt
  no-shared (Some n) (suc j) q e lt = cc

  pub begun : (flags : List Bool) (n : ℕ) (q : Part) → slice_get (parts_of m part_of shared nodes flags) n ≡ Some q → 0 < length q.params → IsBegun nodes flags n
  begun flags zero q e lt = absurd (bare (record { params = []; lines = (rest_from m nodes part_of shared nodes flags no_numbers).lines; tail = (rest_from m nodes part_of shared nodes flags no_numbers).tail }) q e refl lt)
  begun flags (suc n) q e lt =
      ⊎_elim (λ h. begun-behind nodes flags no_numbers n q h) (λ h. absurd (no-shared shared h.0 q h.1 lt))
      (in-either (rest_from m nodes part_of shared nodes flags no_numbers).parts (shared_part shared) n q e)
