use Rattle.std.proofs.Common.{◌≡◌, ◌+◌, length}
use Rattle.static_steps.specs.Values.{dynamics}
use Rattle.step_parts.proofs.counts.count.Given as goal

abbrev pub invariant-loop-rest : goal.invariant-loop-rest
invariant-loop-rest l = dynamics l.names ≡ l.n + dynamics l.rest

abbrev pub decreases-loop-rest : goal.decreases-loop-rest
decreases-loop-rest l = length l.rest
