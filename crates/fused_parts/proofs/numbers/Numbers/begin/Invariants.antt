use Rattle.std.proofs.Common.{◌≡◌, ◌+◌, ◌++◌, length}
use Rattle.fused_parts.specs.Parts.{in_row, with_widths}
use Rattle.fused_parts.proofs.numbers.Numbers.begin.Given as goal

abbrev pub invariant-loop-rest : goal.invariant-loop-rest
invariant-loop-rest l = record {
  left : l.first + length l.widths ≡ l.free + length l.rest;
  mine : in_row l.first (length l.widths) ≡ l.mine ++ in_row l.free (length l.rest);
  params : with_widths (in_row l.first (length l.widths)) l.widths ≡ l.params ++ with_widths (in_row l.free (length l.rest)) l.rest;
}

abbrev pub decreases-loop-rest : goal.decreases-loop-rest
decreases-loop-rest l = length l.rest
