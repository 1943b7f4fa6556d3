-- The premises of the laws can be met: a module with a loop, a phi and a call of a body is numbered and typed, and so has its runs.
use Rattle.std.specs.Prelude.{◌≡◌, refl, None}
use Rattle.ir_module.specs.Entry.{entry_of}
use Rattle.ir_module.specs.Numbered.{Numbered}
use Rattle.ir_values.specs.Calls.{class_of}
use Rattle.qir_meaning.specs.Runs.{AlwaysRuns}
use Rattle.type_check.specs.code.Search.{first_fault}
use Rattle.type_check.specs.Faults.{Typed, keeps_rule}
use Rattle.type_check.specs.Required.{required_qubits, required_results}
use Rattle.type_check.specs.Rules.{types_agree, entries_fit, keeps_first, cases_differ, numbers_below, functions_known}
use Rattle.type_check.specs.Typing.{same_type}
use Rattle.type_check.proofs.First.{typed}
use Rattle.type_check.proofs.Worked.{limit, three_turns}
use Rattle.typed_runs.specs.Laws.{NeverStuck}

is-numbered : Numbered three_turns
is-numbered = record {
  in_range = refl;
  distinct = refl;
  written = refl;
  results = refl;
  bodies = refl;
  flags = refl;
  integers = refl;
  named = refl;
  values = refl;
  few = refl;
  whole = refl;
}

no-fault : first_fault three_turns limit ≡ None
unfolding first_fault keeps_rule entry_of required_qubits required_results types_agree entries_fit keeps_first cases_differ numbers_below functions_known same_type class_of
no-fault = refl

is-typed : Typed three_turns limit
is-typed = typed three_turns limit no-fault

three-turns-run : NeverStuck → AlwaysRuns three_turns
unfolding NeverStuck
three-turns-run law answers n = (law three_turns limit is-numbered is-typed answers n).run
