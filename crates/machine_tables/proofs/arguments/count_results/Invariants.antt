use Rattle.std.proofs.Common.{◌≡◌, ◌+◌, count_by, length}
use Rattle.backend_api.specs.Operations.{is_result}
use Rattle.machine_tables.proofs.arguments.count_results.Given as goal

abbrev pub invariant-loop-args : goal.invariant-loop-args
invariant-loop-args l = l.count + count_by is_result l.args ≡ count_by is_result l.fn.args

abbrev pub decreases-loop-args : goal.decreases-loop-args
decreases-loop-args l = length l.args
