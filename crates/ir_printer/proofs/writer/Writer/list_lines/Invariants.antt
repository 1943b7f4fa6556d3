use Rattle.std.proofs.Common.{◌≡◌, ◌++◌, length, ◌+◌, ◌≤◌, ◌^◌}
use Rattle.ir_parts.specs.Parts.{text_of}
use Rattle.ir_printer.specs.Metadata.{list_lines}
use Rattle.ir_printer.proofs.writer.Writer.list_lines.Given as goal

-- what is written and what is to come are the whole
abbrev pub invariant-loop-flags : goal.invariant-loop-flags
invariant-loop-flags l = (l.self ++ text_of (list_lines l.node l.flags) ≡ l.initial.self ++ text_of (list_lines (length l.fn.flags) l.fn.flags)) × (l.node + length l.flags ≤ 2 ^ 65)

abbrev pub decreases-loop-flags : goal.decreases-loop-flags
decreases-loop-flags l = length l.flags
