use Rattle.std.proofs.Common.{◌≡◌, ◌+◌, length}
use Rattle.static_steps.specs.Works.{frame_dynamics}
use Rattle.step_parts.proofs.counts.count_frames.Given as goal

abbrev pub invariant-loop-rest : goal.invariant-loop-rest
invariant-loop-rest l = frame_dynamics l.frames ≡ l.n + frame_dynamics l.rest

abbrev pub decreases-loop-rest : goal.decreases-loop-rest
decreases-loop-rest l = length l.rest
