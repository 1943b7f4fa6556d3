use Rattle.std.proofs.Common.{◌≡◌, ◌++◌, length, map}
use Rattle.ir_parts.specs.Parts.{text_of}
use Rattle.ir_printer.specs.Pieces.{further}
use Rattle.ir_printer.specs.Instructions.{argument_parts}
use Rattle.ir_printer.proofs.writer.Writer.further_arguments.Given as goal

-- what is written and what is to come are the whole
abbrev pub invariant-loop-args : goal.invariant-loop-args
invariant-loop-args l = l.self ++ text_of (further (map (argument_parts l.m l.f) l.args)) ≡ l.initial.self ++ text_of (further (map (argument_parts l.m l.f) l.fn.args))

abbrev pub decreases-loop-args : goal.decreases-loop-args
decreases-loop-args l = length l.args
