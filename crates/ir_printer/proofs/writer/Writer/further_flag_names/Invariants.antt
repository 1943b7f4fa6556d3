use Rattle.std.proofs.Common.{◌≡◌, ◌++◌, length, ◌+◌, ◌≤◌, ◌^◌}
use Rattle.ir_parts.specs.Parts.{text_of}
use Rattle.ir_printer.specs.Metadata.{flag_names}
use Rattle.ir_printer.specs.Pieces.{further}
use Rattle.ir_printer.proofs.writer.Writer.further_flag_names.Given as goal

-- what is written and what is to come are the whole
abbrev pub invariant-loop-flags : goal.invariant-loop-flags
invariant-loop-flags l = (l.self ++ text_of (further (flag_names l.number l.flags)) ≡ l.initial.self ++ text_of (further (flag_names 1 l.fn.flags))) × (l.number + length l.flags ≤ 2 ^ 65)

abbrev pub decreases-loop-flags : goal.decreases-loop-flags
decreases-loop-flags l = length l.flags
