use Rattle.std.proofs.Common.{◌≡◌, length, map}
use Rattle.static_steps.specs.Operations.{typed_args}
use Rattle.step_parts.proofs.Ahead.{ahead}
use Rattle.step_parts.proofs.arguments.typed_args.Given as goal

abbrev pub invariant-loop-rest : goal.invariant-loop-rest
invariant-loop-rest l = typed_args (map (λ a. a.0) l.args) l.vals ≡ ahead l.out (typed_args (map (λ a. a.0) l.rest) l.left)

abbrev pub decreases-loop-rest : goal.decreases-loop-rest
decreases-loop-rest l = length l.rest
