use Rattle.std.proofs.Common.{◌≡◌, ◌++◌, length, ◌+◌, ◌≤◌, ◌^◌}
use Rattle.ir_parts.specs.Parts.{text_of}
use Rattle.ir_printer.specs.Groups.{group_lines}
use Rattle.ir_printer.proofs.writer.Writer.group_lines.Given as goal

-- what is written and what is to come are the whole
abbrev pub invariant-loop-groups : goal.invariant-loop-groups
invariant-loop-groups l = (l.self ++ text_of (group_lines l.number l.groups) ≡ l.initial.self ++ text_of (group_lines 0 l.fn.groups)) × (l.number + length l.groups ≤ 2 ^ 65)

abbrev pub decreases-loop-groups : goal.decreases-loop-groups
decreases-loop-groups l = length l.groups
