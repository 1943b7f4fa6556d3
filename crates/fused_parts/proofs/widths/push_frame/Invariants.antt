use Rattle.std.proofs.Common.{◌≡◌, ◌++◌, length}
use Rattle.std.specs.Prelude.{slice_get}
use Rattle.fused_parts.specs.Nodes.{frame_widths, name_widths}
use Rattle.fused_parts.proofs.widths.push_frame.Given as goal

abbrev pub invariant-loop-rest : goal.invariant-loop-rest
invariant-loop-rest l = l.fn.widths ++ frame_widths l.m l.frame ≡ l.widths ++ name_widths (slice_get l.m.funcs l.frame.at.func.0) l.rest

abbrev pub decreases-loop-rest : goal.decreases-loop-rest
decreases-loop-rest l = length l.rest
