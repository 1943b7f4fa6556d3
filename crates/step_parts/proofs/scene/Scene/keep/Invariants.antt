use Rattle.std.proofs.Common.{◌≡◌, ◌++◌, length}
use Rattle.static_steps.specs.Values.{keep}
use Rattle.step_parts.specs.Lives.{lives}
use Rattle.step_parts.proofs.scene.Scene.keep.Given as goal

abbrev pub invariant-loop-rest : goal.invariant-loop-rest
invariant-loop-rest l = keep (lives l.self.flows.now l.p) l.names ≡ l.out ++ keep (lives l.self.flows.now l.p) l.rest

abbrev pub decreases-loop-rest : goal.decreases-loop-rest
decreases-loop-rest l = length l.rest
