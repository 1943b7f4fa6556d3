-- Which configurations go on in a part, and how many follow each in its part.
use Rattle.std.specs.Prelude.{◌≡◌, ℕ, zero, suc, if◌then◌else◌, Bool, true, false, Some, List, [], ◌∷◌, slice_get}
use Rattle.kept_items.specs.declared.val.Dyn.{Dyn}
use Rattle.path_search.specs.declared.visit.Link.{Link}
use Rattle.fused_parts.specs.Nodes.{Node}

-- whether the next configuration goes on in the part of this one, by the flags; the last has no next
abbrev pub goes_on : List Node → List Bool → ℕ → Bool
goes_on [] bs i = false
goes_on (x ∷ []) bs i = false
goes_on (x ∷ y ∷ xs) [] i = false
goes_on (x ∷ y ∷ xs) (b ∷ bs) zero = b
goes_on (x ∷ y ∷ xs) (b ∷ bs) (suc i) = goes_on (y ∷ xs) bs i

-- how many follow in the part
abbrev pub rank_at : List Node → List Bool → ℕ → ℕ
rank_at [] bs i = 0
rank_at (x ∷ []) bs i = 0
rank_at (x ∷ y ∷ xs) [] i = 0
rank_at (x ∷ y ∷ xs) (b ∷ bs) zero = if b then suc (rank_at (y ∷ xs) bs zero) else 0
rank_at (x ∷ y ∷ xs) (b ∷ bs) (suc i) = rank_at (y ∷ xs) bs i

-- the number of the part that a configuration begins: so many configurations before it end one
abbrev pub part_number : List Bool → ℕ → ℕ
part_number bs zero = 0
part_number [] (suc i) = 0
part_number (true ∷ bs) (suc i) = part_number bs i
part_number (false ∷ bs) (suc i) = suc (part_number bs i)

-- One that goes on has one edge, which leads to the next. Every edge of another leads to a configuration that begins a part, and none to
-- the first.
pub record Fuses (nodes : List Node) (flags : List Bool) : Type 0 where
  pub onward : (i : ℕ) (x : Node) → slice_get nodes i ≡ Some x → goes_on nodes flags i ≡ true
      → (args : List Dyn) × (x.links ≡ (record { to = suc i; label = args }) ∷ [])
  pub begins : (i : ℕ) (x : Node) (q : ℕ) (l : Link (List Dyn)) → slice_get nodes i ≡ Some x → goes_on nodes flags i ≡ false
      → slice_get x.links q ≡ Some l → (j : ℕ) × (l.to ≡ suc j) × (goes_on nodes flags j ≡ false)
