-- The entries of a phi against the edges into its block.
use Rattle.std.specs.Prelude.{◌≡◌, ◌⊎◌, ⊤, ℕ, ◌≤◌, ◌<◌, ◌==◌, ◌&&◌, Bool, true, Option, None, Some, List, [], ◌∷◌, map, count_by, if◌then◌else◌}
use Rattle.std.specs.List.Sorted.{IsSorted, IsPermutation}
use Rattle.std.specs.Option.{option_or}
use Rattle.std.specs.Ordering.{nat_cmp}
use Rattle.ir_values.specs.declared.ids.BlockId.{BlockId}
use Rattle.ir_module.specs.declared.tree.Block.{Block}
use Rattle.ir_module.specs.declared.tree.Operand.{Operand}
use Rattle.type_check.specs.code.Arcs.{Arc}
use Rattle.type_check.specs.Rules.{sources, times, entry_blocks, same_operand}

-- ---- the arcs of a function, block by block

-- in order, and none is before the arc from s to b
abbrev pub Follow : ℕ → ℕ → List Arc → Type 0
Follow b s [] = ⊤
Follow b s (a ∷ rest) = ((b < a.0) ⊎ ((b ≡ a.0) × (s ≤ a.1))) × Follow a.0 a.1 rest

-- how many of these arcs lead from q to b
abbrev pub arc_times : ℕ → ℕ → List Arc → ℕ
arc_times b q arcs = count_by (λ a. (a.0 == b) && (a.1 == q)) arcs

-- the arcs into block b and those behind it, in order
pub record AreLeft (blocks : List Block) (b : ℕ) (arcs : List Arc) : Type 0 where
  pub follow : Follow b 0 arcs
  pub same : (c q : ℕ) → b ≤ c → arc_times c q arcs ≡ times q (sources c 0 blocks)

-- no number is below the one before it, nor the first below n
abbrev pub Ascend : ℕ → List ℕ → Type 0
Ascend n [] = ⊤
Ascend n (x ∷ xs) = (n ≤ x) × Ascend x xs

abbrev pub arc_sources : List Arc → List ℕ
arc_sources arcs = map (λ a. a.1) arcs

-- the arcs into block b, in order
pub record LeadInto (blocks : List Block) (b : ℕ) (arcs : List Arc) : Type 0 where
  pub ascend : Ascend 0 (arc_sources arcs)
  pub same : (q : ℕ) → times q (arc_sources arcs) ≡ times q (sources b 0 blocks)

-- ---- the blocks that entries are for

-- in order
pub record SortsBlocks (entries : List (Operand × BlockId)) (sorted : List ℕ) : Type 0 where
  pub same : IsPermutation (entry_blocks entries) sorted
  pub ascends : IsSorted nat_cmp sorted

-- ---- their operands, where that of the first entry for a block is kept

-- an operand for a block, beside the one that is kept
abbrev pub agrees : Option Operand → Operand → Bool
agrees None o = true
agrees (Some first) o = same_operand first o

abbrev pub noted : (ℕ → Option Operand) → Operand × BlockId → ℕ → Option Operand
noted first e q = option_or (first q) (if e.1.0 == q then Some e.0 else None)

abbrev pub agree_from : (ℕ → Option Operand) → List (Operand × BlockId) → Bool
agree_from first [] = true
agree_from first (e ∷ es) = agrees (first e.1.0) e.0 && agree_from (noted first e) es
