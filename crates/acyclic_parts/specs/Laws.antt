-- Of a program for a target without loops, jumps lead from no part of the lowered program back to it.
use Rattle.std.specs.Prelude.{◌≡◌, ℕ, false, Option, Some, List, slice_get}
use Rattle.graph_cycles.specs.Cycles.{IsOnCycle}
use Rattle.kept_items.specs.Targets.{has_loops}
use Rattle.path_search.specs.Explored.{Explored}
use Rattle.residue.specs.declared.parts.Residue.{Residue}
use Rattle.unroller.specs.Programs.{Carries, Program, search_of}
use Rattle.fused_parts.specs.Nodes.{Node}
use Rattle.valid_lines.specs.Laws.{IsStepOf}
use Rattle.lowered_runs.specs.Made.{IsMade}
use Rattle.profiled_residue.specs.Premises.{jump_graph}

-- where the configurations of the program are all explored, and the lowered program is made of them
abbrev pub JumpsLeadOn : Type 0
JumpsLeadOn =
    (p : Program) (budget : ℕ) (nodes : List Node) (shared : Option ℕ) (r : Residue)
    → Explored (search_of p budget) (Carries p) nodes
    → ((i : ℕ) (x : Node) → slice_get nodes i ≡ Some x → IsStepOf p x)
    → IsMade p nodes shared r
    → has_loops p.target ≡ false
    → (n : ℕ)
    → IsOnCycle (jump_graph r) n
    → ⊥
