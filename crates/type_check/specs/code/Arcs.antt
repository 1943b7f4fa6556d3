-- The edges of a function by the blocks that they lead to, and the entries of a phi against them.
use Rattle.std.specs.Prelude.{◌≡◌, ℕ, suc, ◌+◌, ◌==◌, ◌&&◌, Bool, true, false, List, [], ◌∷◌, ◌++◌, map, if◌then◌else◌}
use Rattle.std.specs.Ordering.{ordering_then, nat_cmp}
use Rattle.std.specs.declared.cmp.Ordering.{Ordering}
use Rattle.std.specs.List.Sorted.{IsSorted, IsPermutation}
use Rattle.ir_values.specs.declared.ids.BlockId.{BlockId}
use Rattle.ir_module.specs.declared.tree.Block.{Block}
use Rattle.ir_module.specs.Edges.{edges}

-- the block that an edge leads to, and the one that it comes from
abbrev pub Arc : Type 0
Arc = ℕ × ℕ

abbrev pub arcs_from : ℕ → List BlockId → List Arc
arcs_from n ts = map (λ t. (t.0, n)) ts

-- those of blocks that are numbered from n
abbrev pub arcs : ℕ → List Block → List Arc
arcs n [] = []
arcs n (block ∷ blocks) = arcs_from n (edges block.term) ++ arcs (n + 1) blocks

abbrev pub arc_cmp : Arc → Arc → Ordering
arc_cmp a b = ordering_then (nat_cmp a.0 b.0) (nat_cmp a.1 b.1)

-- the arcs of these blocks in order
pub record SortsArcs (blocks : List Block) (sorted : List Arc) : Type 0 where
  pub same : IsPermutation (arcs 0 blocks) sorted
  pub ascends : IsSorted arc_cmp sorted

-- how many arcs lead to b at the beginning, these, and the others
abbrev pub lead : ℕ → List Arc → ℕ
lead b [] = 0
lead b (a ∷ rest) = if a.0 == b then lead b rest + 1 else 0

abbrev pub front : ℕ → List Arc → List Arc
front b [] = []
front b (a ∷ rest) = if a.0 == b then a ∷ front b rest else []

abbrev pub others : ℕ → List Arc → List Arc
others b [] = []
others b (a ∷ rest) = if a.0 == b then others b rest else a ∷ rest

-- the arcs come from these blocks, one from each
abbrev pub come_from : List ℕ → List Arc → Bool
come_from [] [] = true
come_from [] (a ∷ rest) = false
come_from (b ∷ bs) [] = false
come_from (b ∷ bs) (a ∷ rest) = (a.1 == b) && come_from bs rest
