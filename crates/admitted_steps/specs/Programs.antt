-- The program that an admitted module is for a target.
use Rattle.std.specs.Prelude.{Option, None, Some}
use Rattle.admission.specs.Admitted.{CheckedModule, greatest_required}
use Rattle.ir_module.specs.Entry.{Entry, entry_of}
use Rattle.ir_values.specs.declared.ids.FuncId.{FuncId}
use Rattle.kept_items.specs.declared.target.Target.{Target}
use Rattle.step_parts.specs.Lives.{lives}
use Rattle.type_check.specs.Required.{required_qubits, required_results}
use Rattle.unroller.specs.Programs.{Program}
use Rattle.valid_steps.specs.Laws.{entry_id}

-- the number of an entry; every admitted module has one
abbrev pub number_of_entry : Option Entry → FuncId
number_of_entry None = record { 0 = 0 }
number_of_entry (Some e) = entry_id e

-- its own entry, its live names by its flows, and its required numbers
abbrev pub program_of : CheckedModule → Target → Program
program_of c t = record {
  m = c.tree;
  target = t;
  live = lives c.flows;
  entry = number_of_entry (entry_of c.tree);
  qubits = required_qubits c.tree greatest_required;
  results = required_results c.tree greatest_required;
}
