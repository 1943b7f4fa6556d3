use Rattle.std.proofs.Common.{◌≡◌, ◌++◌, length}
use Rattle.ir_parts.specs.Parts.{text_of}
use Rattle.ir_printer.specs.Canonical.{constant_lines}
use Rattle.ir_printer.proofs.writer.Writer.constant_lines.Given as goal

-- what is written and what is to come are the whole
abbrev pub invariant-loop-constants : goal.invariant-loop-constants
invariant-loop-constants l = l.self ++ text_of (constant_lines l.constants) ≡ l.initial.self ++ text_of (constant_lines l.fn.constants)

abbrev pub decreases-loop-constants : goal.decreases-loop-constants
decreases-loop-constants l = length l.constants
