use Rattle.std.proofs.Common.{◌≡◌, ◌++◌, length}
use Rattle.std.specs.Prelude.{flat_map}
use Rattle.ir_parts.specs.Parts.{text_of}
use Rattle.ir_printer.specs.Functions.{function_section}
use Rattle.ir_printer.proofs.writer.Writer.functions.Given as goal

-- what is written and what is to come are the whole
abbrev pub invariant-loop-functions : goal.invariant-loop-functions
invariant-loop-functions l = l.self ++ text_of (flat_map (function_section l.m) l.functions) ≡ l.initial.self ++ text_of (flat_map (function_section l.m) l.fn.functions)

abbrev pub decreases-loop-functions : goal.decreases-loop-functions
decreases-loop-functions l = length l.functions
