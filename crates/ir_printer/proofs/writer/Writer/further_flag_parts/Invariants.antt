use Rattle.std.proofs.Common.{◌≡◌, ◌++◌, length, map}
use Rattle.ir_parts.specs.Parts.{text_of}
use Rattle.ir_printer.specs.Pieces.{further}
use Rattle.ir_printer.specs.Metadata.{flag_part_parts}
use Rattle.ir_printer.proofs.writer.Writer.further_flag_parts.Given as goal

-- what is written and what is to come are the whole
abbrev pub invariant-loop-parts : goal.invariant-loop-parts
invariant-loop-parts l = l.self ++ text_of (further (map flag_part_parts l.parts)) ≡ l.initial.self ++ text_of (further (map flag_part_parts l.fn.parts))

abbrev pub decreases-loop-parts : goal.decreases-loop-parts
decreases-loop-parts l = length l.parts
