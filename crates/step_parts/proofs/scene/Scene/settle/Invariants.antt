use Rattle.std.proofs.Common.{◌≡◌, ◌++◌, length}
use Rattle.static_steps.specs.Values.{keep, numbers, shape}
use Rattle.step_parts.specs.Lives.{lives}
use Rattle.step_parts.proofs.scene.Scene.settle.Given as goal

abbrev pub invariant-loop-rest : goal.invariant-loop-rest
invariant-loop-rest l = record {
  names : shape (keep (lives l.self.flows.now l.p) l.names) ≡ l.out ++ shape (keep (lives l.self.flows.now l.p) l.rest);
  args : l.fn.args ++ numbers (keep (lives l.self.flows.now l.p) l.names) ≡ l.args ++ numbers (keep (lives l.self.flows.now l.p) l.rest);
}

abbrev pub decreases-loop-rest : goal.decreases-loop-rest
decreases-loop-rest l = length l.rest
