use Rattle.std.proofs.Common.{◌≡◌, ℕ, true, List, length}
use Rattle.std.specs.List.{list_all}
use Rattle.std.specs.Prelude.{flat_map}
use Rattle.ir_module.specs.Numbered.{are_few}
use Rattle.residue.specs.Functions as spec
use Rattle.residue.specs.Functions.{Called}
use Rattle.residue.specs.Scopes.{item_uses}
use Rattle.called_functions.specs.code.Tables as code
use Rattle.called_functions.proofs.table.declare_parts.Given as goal

abbrev pub invariant-loop-part : goal.invariant-loop-part
invariant-loop-part l = (list_all (λ x. are_few (item_uses x)) (code.items_in l.parts) ≡ true) ×
    ((irreversible : List (List ℕ)) (cs : List Called) → code.Marks irreversible l.irreversible.keys → code.Lists irreversible cs l.fn.table
    → (done : List Called) × code.Lists irreversible done l.table × (spec.first_uses done (flat_map spec.calls_of (code.items_in l.parts)) ≡ spec.first_uses cs (flat_map spec.calls_of (code.items_in l.fn.parts))))

abbrev pub decreases-loop-part : goal.decreases-loop-part
decreases-loop-part l = length l.parts
