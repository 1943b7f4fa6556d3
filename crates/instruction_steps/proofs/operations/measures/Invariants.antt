use Rattle.std.proofs.Common.{◌≡◌, length}
use Rattle.static_steps.specs.Operations.{measures}
use Rattle.instruction_steps.proofs.operations.measures.Given as goal

abbrev pub invariant-loop-rest : goal.invariant-loop-rest
invariant-loop-rest l = measures l.args ≡ measures l.rest

abbrev pub decreases-loop-rest : goal.decreases-loop-rest
decreases-loop-rest l = length l.rest
