use Rattle.std.proofs.Common.{◌≡◌, ◌++◌, length, map}
use Rattle.ir_parts.specs.Parts.{text_of}
use Rattle.ir_printer.specs.Pieces.{further}
use Rattle.ir_printer.specs.Instructions.{entry_parts}
use Rattle.ir_printer.proofs.writer.Writer.further_entries.Given as goal

-- what is written and what is to come are the whole
abbrev pub invariant-loop-entries : goal.invariant-loop-entries
invariant-loop-entries l = l.self ++ text_of (further (map (entry_parts l.m l.f l.ty) l.entries)) ≡ l.initial.self ++ text_of (further (map (entry_parts l.m l.f l.ty) l.fn.entries))

abbrev pub decreases-loop-entries : goal.decreases-loop-entries
decreases-loop-entries l = length l.entries
