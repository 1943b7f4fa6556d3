use Rattle.std.proofs.Common.{◌≡◌, ◌++◌, length}
use Rattle.ir_parts.specs.Parts.{text_of}
use Rattle.ir_printer.specs.Groups.{attrs_parts}
use Rattle.ir_printer.proofs.writer.Writer.attrs.Given as goal

-- what is written and what is to come are the whole
abbrev pub invariant-loop-attrs : goal.invariant-loop-attrs
invariant-loop-attrs l = l.self ++ text_of (attrs_parts l.attrs) ≡ l.initial.self ++ text_of (attrs_parts l.fn.attrs)

abbrev pub decreases-loop-attrs : goal.decreases-loop-attrs
decreases-loop-attrs l = length l.attrs
