use Rattle.std.proofs.Common.{◌≡◌, ◌≤◌, ◌-◌, ◌++◌}
use Rattle.step_parts.specs.code.Frames.{counted}
use Rattle.step_parts.proofs.frames.push_counted.Given as goal

abbrev pub invariant-loop-n : goal.invariant-loop-n
invariant-loop-n l = record {
  numbers : l.fn.out ++ counted 0 l.count ≡ l.out ++ counted l.n (l.count - l.n);
  within : l.n ≤ l.count;
}

abbrev pub decreases-loop-n : goal.decreases-loop-n
decreases-loop-n l = l.count - l.n
