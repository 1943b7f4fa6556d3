use Rattle.std.proofs.Common.{◌≡◌, ◌++◌, length, ◌+◌, ◌≤◌, ◌^◌}
use Rattle.ir_parts.specs.Parts.{text_of}
use Rattle.ir_printer.specs.Metadata.{flag_lines}
use Rattle.ir_printer.proofs.writer.Writer.flag_lines.Given as goal

-- what is written and what is to come are the whole
abbrev pub invariant-loop-flags : goal.invariant-loop-flags
invariant-loop-flags l = (l.self ++ text_of (flag_lines l.number l.node l.flags) ≡ l.initial.self ++ text_of (flag_lines 0 (length l.fn.flags) l.fn.flags)) × (l.number + length l.flags ≤ 2 ^ 65) × (l.node + length l.flags ≤ 2 ^ 65)

abbrev pub decreases-loop-flags : goal.decreases-loop-flags
decreases-loop-flags l = length l.flags
