use Rattle.std.proofs.Common.{◌≡◌, ◌++◌, length}
use Rattle.ir_parts.specs.Parts.{text_of}
use Rattle.ir_printer.specs.code.OpenTypes.{behind}
use Rattle.ir_printer.proofs.writer.Writer.close.Given as goal

-- what is written and what is to come are the whole
abbrev pub invariant-loop-last : goal.invariant-loop-last
invariant-loop-last l = (l.self ++ text_of (behind l.opened).parts ≡ l.initial.self ++ text_of (behind l.initial.opened).parts) × ((behind l.opened).open_types ≡ (behind l.initial.opened).open_types)

abbrev pub decreases-loop-last : goal.decreases-loop-last
decreases-loop-last l = length l.opened
