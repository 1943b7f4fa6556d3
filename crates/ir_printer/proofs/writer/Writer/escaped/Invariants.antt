use Rattle.std.proofs.Common.{◌≡◌, ◌++◌, length}
use Rattle.ir_printer.specs.Spellings.{escaped}
use Rattle.ir_printer.proofs.writer.Writer.escaped.Given as goal

-- what is written and what is to come are the whole
abbrev pub invariant-loop-bytes : goal.invariant-loop-bytes
invariant-loop-bytes l = l.self ++ escaped l.bytes ≡ l.initial.self ++ escaped l.fn.bytes

abbrev pub decreases-loop-bytes : goal.decreases-loop-bytes
decreases-loop-bytes l = length l.bytes
