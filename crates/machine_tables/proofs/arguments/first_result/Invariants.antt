use Rattle.std.proofs.Common.{◌≡◌, length}
use Rattle.qir_meaning.specs.Effects.{first_result}
use Rattle.machine_tables.proofs.arguments.first_result.Given as goal

abbrev pub invariant-loop-args : goal.invariant-loop-args
invariant-loop-args l = first_result l.args ≡ first_result l.fn.args

abbrev pub decreases-loop-args : goal.decreases-loop-args
decreases-loop-args l = length l.args
