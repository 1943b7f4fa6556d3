use Rattle.std.proofs.Common.{◌≡◌, ◌<◌, length}
use Rattle.std.specs.Prelude.{slice_get}
use Rattle.static_steps.specs.Values.{dynamics}
use Rattle.fused_parts.specs.Nodes.{frame_widths, name_widths}
use Rattle.dynamic_names.proofs.widths.frame_width.Given as goal

abbrev pub invariant-loop-rest : goal.invariant-loop-rest
invariant-loop-rest l = record {
  inside : l.left < dynamics l.rest;
  same : slice_get (name_widths (slice_get l.m.funcs l.frame.at.func.0) l.rest) l.left ≡ slice_get (frame_widths l.m l.frame) l.k;
}

abbrev pub decreases-loop-rest : goal.decreases-loop-rest
decreases-loop-rest l = length l.rest
