use Rattle.std.proofs.Common.{◌≡◌, ◌++◌, length, []}
use Rattle.ir_parts.specs.Parts.{text_of}
use Rattle.ir_printer.specs.code.OpenTypes.{words_parts}
use Rattle.ir_printer.proofs.writer.Writer.words.Given as goal

-- what is written and what is to come are the whole
abbrev pub invariant-loop-words : goal.invariant-loop-words
invariant-loop-words l = l.self ++ text_of (words_parts l.opened l.words) ≡ l.initial.self ++ text_of (words_parts [] l.fn.words)

abbrev pub decreases-loop-words : goal.decreases-loop-words
decreases-loop-words l = length l.words
