use Rattle.std.proofs.Common.{◌≡◌, ◌≤◌, ◌++◌, length, take}
use Rattle.fused_parts.specs.Nodes.{frames_widths}
use Rattle.fused_parts.proofs.widths.widths_of.Given as goal

abbrev pub invariant-loop-left : goal.invariant-loop-left
invariant-loop-left l = record {
  inside : l.left ≤ length l.config.below;
  whole : frames_widths l.m l.config.below ≡ l.widths ++ frames_widths l.m (take l.left l.config.below);
}

abbrev pub decreases-loop-left : goal.decreases-loop-left
decreases-loop-left l = l.left
