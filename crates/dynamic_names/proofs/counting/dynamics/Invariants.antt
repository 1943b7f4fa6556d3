use Rattle.std.proofs.Common.{◌≡◌, ◌+◌, ◌-◌, ◌<◌, ◌^◌, length, min}
use Rattle.static_steps.specs.Works.{dynamics_of, frame_dynamics}
use Rattle.dynamic_names.proofs.counting.dynamics.Given as goal

abbrev pub invariant-loop-rest : goal.invariant-loop-rest
invariant-loop-rest l = record {
  small : l.n < 2 ^ 64;
  same : min (l.n + frame_dynamics l.rest) (2 ^ 64 - 1) ≡ min (dynamics_of l.config) (2 ^ 64 - 1);
}

abbrev pub decreases-loop-rest : goal.decreases-loop-rest
decreases-loop-rest l = length l.rest
