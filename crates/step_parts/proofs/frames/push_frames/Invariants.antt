use Rattle.std.proofs.Common.{◌≡◌, ◌++◌, length}
use Rattle.step_parts.proofs.frames.push_frames.Given as goal

abbrev pub invariant-loop-rest : goal.invariant-loop-rest
invariant-loop-rest l = l.fn.out ++ l.frames ≡ l.out ++ l.rest

abbrev pub decreases-loop-rest : goal.decreases-loop-rest
decreases-loop-rest l = length l.rest
