-- What the lowered program of a module that can be printed holds can be printed.
use Rattle.std.specs.Prelude.{◌≡◌, ℕ, ◌^◌, ◌<◌, Some, List, slice_get}
use Rattle.ir_module.specs.declared.tree.Function.{Function}
use Rattle.ir_module.specs.Printable.{IsPrintable}
use Rattle.kept_items.specs.declared.target.Target.{Target}
use Rattle.path_search.specs.Explored.{Explored}
use Rattle.residue.specs.declared.parts.Residue.{Residue}
use Rattle.residue.specs.Printed.{printed}
use Rattle.residue.specs.Valid.{Valid}
use Rattle.unroller.specs.Programs.{Carries, Program, search_of}
use Rattle.fused_parts.specs.Nodes.{Node}
use Rattle.lowered_program.specs.Residues.{residue_of}
use Rattle.valid_lines.specs.Laws.{IsStepOf}
use Rattle.printable_residue.specs.Pieces.{HasPrintablePieces, PartsAreReached}

-- the required numbers are below 2 to the 64
pub record AreSmall (r : Residue) : Type 0 where
  pub qubits : r.all_qubits < 2 ^ 64
  pub results : r.all_results < 2 ^ 64

-- where a jump leads to each part with parameters
abbrev pub LoweredProgramsHavePrintablePieces : Type 0
LoweredProgramsHavePrintablePieces =
    (p : Program) (budget : ℕ) (entry : Function) (nodes : List Node)
    → IsPrintable p.m
    → slice_get p.m.funcs p.entry.0 ≡ Some entry
    → Explored (search_of p budget) (Carries p) nodes
    → AreSmall (residue_of p entry nodes)
    → PartsAreReached (residue_of p entry nodes).parts
    → HasPrintablePieces (residue_of p entry nodes)

-- where the outcomes of the nodes are as those of modules without faults, and the lowered program is valid for the target
abbrev pub LoweredModulesArePrintable : Type 0
LoweredModulesArePrintable =
    (p : Program) (budget : ℕ) (entry : Function) (nodes : List Node) (t : Target)
    → IsPrintable p.m
    → slice_get p.m.funcs p.entry.0 ≡ Some entry
    → Explored (search_of p budget) (Carries p) nodes
    → ((i : ℕ) (x : Node) → slice_get nodes i ≡ Some x → IsStepOf p x)
    → AreSmall (residue_of p entry nodes)
    → Valid (residue_of p entry nodes) t
    → IsPrintable (printed (residue_of p entry nodes) t)
