use Rattle.std.proofs.Common.{◌≡◌, length}
use Rattle.static_steps.specs.Values.{look, numbered}
use Rattle.step_parts.proofs.names.look.Given as goal

abbrev pub invariant-loop-rest : goal.invariant-loop-rest
invariant-loop-rest l = look l.x (numbered l.first l.names) ≡ look l.x (numbered l.n l.rest)

abbrev pub decreases-loop-rest : goal.decreases-loop-rest
decreases-loop-rest l = length l.rest
