use Rattle.std.proofs.Common.{◌≡◌, length, map}
use Rattle.static_steps.specs.Values.{vals_of}
use Rattle.step_parts.proofs.Ahead.{ahead}
use Rattle.step_parts.specs.code.Scenes.{at}
use Rattle.step_parts.proofs.scene.Scene.arg_vals.Given as goal

abbrev pub invariant-loop-rest : goal.invariant-loop-rest
invariant-loop-rest l = vals_of (at l.self).w.top.names (map (λ a. a.1) l.args) ≡ ahead l.out (vals_of (at l.self).w.top.names (map (λ a. a.1) l.rest))

abbrev pub decreases-loop-rest : goal.decreases-loop-rest
decreases-loop-rest l = length l.rest
