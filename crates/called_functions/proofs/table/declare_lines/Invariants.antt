use Rattle.std.proofs.Common.{◌≡◌, ℕ, true, List, length}
use Rattle.std.specs.List.{list_all}
use Rattle.std.specs.Prelude.{flat_map}
use Rattle.ir_module.specs.Numbered.{are_few}
use Rattle.residue.specs.Functions as spec
use Rattle.residue.specs.Functions.{Called}
use Rattle.residue.specs.Scopes.{item_uses, items_of}
use Rattle.called_functions.specs.code.Tables as code
use Rattle.called_functions.proofs.table.declare_lines.Given as goal

abbrev pub invariant-loop-line : goal.invariant-loop-line
invariant-loop-line l = (list_all (λ x. are_few (item_uses x)) (items_of l.lines) ≡ true) ×
    ((irreversible : List (List ℕ)) (cs : List Called) → code.Marks irreversible l.irreversible.keys → code.Lists irreversible cs l.fn.table
    → (done : List Called) × code.Lists irreversible done l.table × (spec.first_uses done (flat_map spec.calls_of (items_of l.lines)) ≡ spec.first_uses cs (flat_map spec.calls_of (items_of l.fn.lines))))

abbrev pub decreases-loop-line : goal.decreases-loop-line
decreases-loop-line l = length l.lines
