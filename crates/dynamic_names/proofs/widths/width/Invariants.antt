use Rattle.std.proofs.Common.{◌≡◌, ◌<◌, ◌≤◌, ◌++◌, length, take}
use Rattle.std.specs.Prelude.{slice_get}
use Rattle.fused_parts.specs.Nodes.{frame_widths, frames_widths, widths_of}
use Rattle.dynamic_names.proofs.widths.width.Given as goal

abbrev pub invariant-loop-at : goal.invariant-loop-at
invariant-loop-at l = record {
  inside : l.at ≤ length l.config.below;
  few : l.left < length (frames_widths l.m (take l.at l.config.below) ++ frame_widths l.m l.config.top);
  same : slice_get (frames_widths l.m (take l.at l.config.below) ++ frame_widths l.m l.config.top) l.left ≡ slice_get (widths_of l.m l.config) l.fn.name.0;
}

abbrev pub decreases-loop-at : goal.decreases-loop-at
decreases-loop-at l = l.at
