use Rattle.std.proofs.Common.{length}
use Rattle.lowered_program.specs.Parameters.{HaveFewParameters}
use Rattle.lowered_program.proofs.parameters.few_parameters.Given as goal

abbrev pub invariant-loop-rest : goal.invariant-loop-rest
invariant-loop-rest l = HaveFewParameters l.rest → HaveFewParameters l.functions

abbrev pub decreases-loop-rest : goal.decreases-loop-rest
decreases-loop-rest l = length l.rest
