-- Laws of the lowered programs of modules without faults.
use Rattle.std.specs.Prelude.{◌≡◌, ℕ, true, Some, List, slice_get}
use Rattle.residue.specs.declared.parts.Residue.{Residue}
use Rattle.kept_items.specs.declared.target.Caps.{Caps}
use Rattle.kept_items.specs.declared.target.Target.TheVariants.{Adaptive}
use Rattle.residue.specs.Valid.{distinct_cases, handles_below, labels_below, names_differ, target_permits}
use Rattle.fused_parts.specs.Nodes.{Node}
use Rattle.unroller.specs.Programs.{Program}
use Rattle.valid_lines.specs.Laws.{IsStepOf}
use Rattle.valid_residue.specs.Programs.{IsLowered}

-- each configuration has the outcome of its static step, as modules without faults have them
unfoldable pub NodesAreSteps : Type 0
NodesAreSteps =
    (p : Program) (nodes : List Node) (r : Residue) (i : ℕ) (x : Node)
    → IsLowered p nodes r
    → slice_get nodes i ≡ Some x
    → IsStepOf p x

-- the cases of each switch are distinct
unfoldable pub CasesDiffer : Type 0
CasesDiffer = (p : Program) (nodes : List Node) (r : Residue) → IsLowered p nodes r → distinct_cases r ≡ true

-- the names of the entry and of the constants are distinct, and no reserved ones
unfoldable pub NamesDiffer : Type 0
NamesDiffer = (p : Program) (nodes : List Node) (r : Residue) → IsLowered p nodes r → names_differ r ≡ true

-- labels are constants of the program
unfoldable pub LabelsAreBelow : Type 0
LabelsAreBelow = (p : Program) (nodes : List Node) (r : Residue) → IsLowered p nodes r → labels_below r ≡ true

-- the numbers of qubits and results are below the required ones
unfoldable pub HandlesAreBelow : Type 0
HandlesAreBelow = (p : Program) (nodes : List Node) (r : Residue) → IsLowered p nodes r → handles_below r ≡ true

-- what an Adaptive target has permits the whole program
unfoldable pub AdaptivePermits : Type 0
AdaptivePermits =
    (p : Program) (caps : Caps) (nodes : List Node) (r : Residue)
    → p.target ≡ Adaptive caps
    → IsLowered p nodes r
    → target_permits r p.target ≡ true
