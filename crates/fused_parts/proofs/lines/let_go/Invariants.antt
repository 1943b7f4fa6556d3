use Rattle.std.proofs.Common.{◌≡◌, length}
use Rattle.fused_parts.specs.Parts.{let_go}
use Rattle.fused_parts.proofs.lines.let_go.Given as goal

abbrev pub invariant-loop-before : goal.invariant-loop-before
invariant-loop-before l = let_go l.fn.before l.fn.after ≡ let_go l.before l.after

abbrev pub decreases-loop-before : goal.decreases-loop-before
decreases-loop-before l = length l.before
