use Rattle.std.proofs.Common.{◌≡◌, ◌≤◌, take}
use Rattle.std.specs.Prelude.{count_by}
use Rattle.ir_values.specs.Calls.{is_result}
use Rattle.ir_values.proofs.call_table.count_results.Given as goal

abbrev pub invariant-loop-word : goal.invariant-loop-word
invariant-loop-word l = (l.count ≡ count_by is_result (take l.word-index l.params)) × (l.count ≤ l.word-index)
