use Rattle.std.proofs.Common.{◌≡◌, ◌++◌, length}
use Rattle.static_steps.specs.Results.{without}
use Rattle.control_steps.proofs.allocations.without.Given as goal

abbrev pub invariant-loop-rest : goal.invariant-loop-rest
invariant-loop-rest l = without l.held l.j ≡ l.out ++ without l.rest l.j

abbrev pub decreases-loop-rest : goal.decreases-loop-rest
decreases-loop-rest l = length l.rest
