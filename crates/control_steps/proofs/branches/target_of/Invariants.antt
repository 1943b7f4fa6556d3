use Rattle.std.proofs.Common.{◌≡◌, length}
use Rattle.qir_meaning.specs.Moves.{target_of}
use Rattle.control_steps.proofs.branches.target_of.Given as goal

abbrev pub invariant-loop-rest : goal.invariant-loop-rest
invariant-loop-rest l = target_of l.i l.cases l.default ≡ target_of l.i l.rest l.default

abbrev pub decreases-loop-rest : goal.decreases-loop-rest
decreases-loop-rest l = length l.rest
