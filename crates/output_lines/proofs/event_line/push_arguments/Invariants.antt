use Rattle.std.proofs.Common.{◌≡◌, ◌++◌, length}
use Rattle.output_lines.specs.TraceLines.{argument_fields}
use Rattle.output_lines.proofs.event_line.push_arguments.Given as goal

-- what is written and what is to come are the whole
abbrev pub invariant-loop-args : goal.invariant-loop-args
invariant-loop-args l = l.text ++ argument_fields l.args ≡ l.initial.text ++ argument_fields l.fn.args

abbrev pub decreases-loop-args : goal.decreases-loop-args
decreases-loop-args l = length l.args
