-- Admitted modules, and what contracts see of one that was checked.
use Rattle.std.specs.Prelude.{◌≡◌, ℕ, Option, Some, List, slice_get}
use Rattle.std.specs.Option.{option_map}
use Rattle.ir_values.specs.declared.ids.FuncId.{FuncId}
use Rattle.ir_module.specs.declared.tree.Module.{Module}
use Rattle.ir_module.specs.Entry.{entry_of}
use Rattle.ir_module.specs.Numbered.{Numbered}
use Rattle.name_flow.specs.declared.flow.Flow.{Flow}
use Rattle.type_check.specs.Faults.{Typed}

-- the greatest required number of qubits or of results
abbrev pub greatest_required : ℕ
greatest_required = 1000000000

-- the numbers and names of the module are in order, and it has no fault
pub record IsAdmitted (m : Module) : Type 0 where
  pub numbered : Numbered m
  pub typed : Typed m greatest_required

-- a module with the flow of each of its functions that has a body
pub record CheckedModule : Type 0 where
  pub tree : Module
  pub flows : List (Option Flow)

-- the function is the entry of the module
pub record IsEntryOf (m : Module) (g : FuncId) : Type 0 where
  pub number : option_map (λ e. e.number) (entry_of m) ≡ Some g.0
  pub function : slice_get m.funcs g.0 ≡ option_map (λ e. e.function) (entry_of m)
