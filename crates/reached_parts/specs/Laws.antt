-- The parts that are made of the reachable configurations of a program are reached.
use Rattle.std.specs.Prelude.{◌≡◌, ℕ, Option, Some, List, slice_get}
use Rattle.path_search.specs.Explored.{Explored}
use Rattle.unroller.specs.Programs.{Carries, Program, search_of}
use Rattle.fused_parts.specs.Nodes.{Node, joins}
use Rattle.fused_parts.specs.Parts.{parts_of}
use Rattle.fused_parts.specs.Ranks.{part_number}
use Rattle.valid_lines.specs.Laws.{IsStepOf}
use Rattle.printable_residue.specs.Pieces.{PartsAreReached}

-- a jump leads to each part with parameters, where the outcomes of the nodes are as those of modules without faults
abbrev pub MadePartsAreReached : Type 0
MadePartsAreReached =
    (p : Program) (budget : ℕ) (nodes : List Node) (shared : Option ℕ)
    → Explored (search_of p budget) (Carries p) nodes
    → ((i : ℕ) (x : Node) → slice_get nodes i ≡ Some x → IsStepOf p x)
    → PartsAreReached (parts_of p.m (part_number (joins nodes)) shared nodes (joins nodes))
