use Rattle.std.proofs.Common.{◌≡◌, ◌≤◌, count_by, take}
use Rattle.backend_api.specs.Operations.{is_result}
use Rattle.library_tests.proofs.bits.count_results.Given as goal

abbrev pub invariant-loop-arg : goal.invariant-loop-arg
invariant-loop-arg l = (l.count ≡ count_by is_result (take l.arg-index l.args)) × (l.count ≤ l.arg-index)
