use Rattle.std.proofs.Common.{◌≡◌, ◌++◌, length}
use Rattle.static_steps.specs.Values.{drop_name}
use Rattle.step_parts.proofs.names.drop_name.Given as goal

abbrev pub invariant-loop-rest : goal.invariant-loop-rest
invariant-loop-rest l = drop_name l.x l.names ≡ l.out ++ drop_name l.x l.rest

abbrev pub decreases-loop-rest : goal.decreases-loop-rest
decreases-loop-rest l = length l.rest
