use Rattle.std.proofs.Common.{◌≡◌, ◌++◌, length}
use Rattle.output_lines.specs.Fields.{escaped}
use Rattle.output_lines.proofs.field.push_escaped.Given as goal

-- what is written and what is to come are the whole
abbrev pub invariant-loop-bytes : goal.invariant-loop-bytes
invariant-loop-bytes l = l.text ++ escaped l.bytes ≡ l.initial.text ++ escaped l.fn.bytes

abbrev pub decreases-loop-bytes : goal.decreases-loop-bytes
decreases-loop-bytes l = length l.bytes
