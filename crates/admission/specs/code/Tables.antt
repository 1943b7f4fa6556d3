-- What is kept beside a checked module.
use Rattle.std.specs.Prelude.{◌≡◌, Option, None, Some, List, [], ◌∷◌, map}
use Rattle.ir_module.specs.declared.tree.Function.{Function}
use Rattle.ir_module.specs.declared.tree.Module.{Module}
use Rattle.ir_module.specs.Classes.{class_of_function}
use Rattle.name_flow.specs.declared.flow.Flow.{Flow}
use Rattle.name_flow.specs.Tables.{IsFlowOf}
use Rattle.type_check.specs.Required.{required_qubits, required_results}
use Rattle.admission.specs.declared.tables.Tables.{Tables}
use Rattle.admission.specs.Admitted.{greatest_required, IsEntryOf}

-- the flow of a function with a body, and none of a declared one
abbrev pub IsFlowOfBody : Function → Option Flow → Type 0
IsFlowOfBody f None = f.blocks ≡ None
IsFlowOfBody f (Some flow) = IsFlowOf f flow

abbrev pub AreFlowsOf : List Function → List (Option Flow) → Type 0
AreFlowsOf [] [] = Unit {0}
AreFlowsOf [] (o ∷ os) = ⊥
AreFlowsOf (f ∷ fs) [] = ⊥
AreFlowsOf (f ∷ fs) (o ∷ os) = IsFlowOfBody f o × AreFlowsOf fs os

-- the tables are those of the module
pub record AreTablesOf (m : Module) (t : Tables) : Type 0 where
  pub entry : IsEntryOf m t.entry
  pub qubits : t.qubits ≡ required_qubits m greatest_required
  pub results : t.results ≡ required_results m greatest_required
  pub flows : AreFlowsOf m.funcs t.flows
  pub classes : t.classes ≡ map class_of_function m.funcs
