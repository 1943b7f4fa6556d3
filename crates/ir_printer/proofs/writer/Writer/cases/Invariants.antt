use Rattle.std.proofs.Common.{◌≡◌, ◌++◌, length}
use Rattle.ir_parts.specs.Parts.{text_of}
use Rattle.ir_printer.specs.Instructions.{cases_parts}
use Rattle.ir_printer.proofs.writer.Writer.cases.Given as goal

-- what is written and what is to come are the whole
abbrev pub invariant-loop-cases : goal.invariant-loop-cases
invariant-loop-cases l = l.self ++ text_of (cases_parts l.f l.cases) ≡ l.initial.self ++ text_of (cases_parts l.f l.fn.cases)

abbrev pub decreases-loop-cases : goal.decreases-loop-cases
decreases-loop-cases l = length l.cases
