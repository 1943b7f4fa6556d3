use Rattle.std.proofs.Common.{◌≡◌, length}
use Rattle.static_steps.specs.Edges.{all_along}
use Rattle.step_parts.proofs.Ahead.{ahead}
use Rattle.step_parts.specs.code.Scenes.{at}
use Rattle.control_steps.proofs.edges.all_along.Given as goal

abbrev pub invariant-loop-rest : goal.invariant-loop-rest
invariant-loop-rest l = all_along (at l.s) l.targets ≡ ahead l.moves (all_along (at l.s) l.rest)

abbrev pub decreases-loop-rest : goal.decreases-loop-rest
decreases-loop-rest l = length l.rest
