use Rattle.std.proofs.Common.{◌≡◌, length}
use Rattle.static_steps.specs.Operations.{wrong_args}
use Rattle.instruction_steps.proofs.operations.wrong_args.Given as goal

abbrev pub invariant-loop-rest : goal.invariant-loop-rest
invariant-loop-rest l = wrong_args l.s.given.now.held l.args ≡ wrong_args l.s.given.now.held l.rest

abbrev pub decreases-loop-rest : goal.decreases-loop-rest
decreases-loop-rest l = length l.rest
