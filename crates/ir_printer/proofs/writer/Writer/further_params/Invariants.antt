use Rattle.std.proofs.Common.{◌≡◌, ◌++◌, length, map}
use Rattle.ir_parts.specs.Parts.{text_of}
use Rattle.ir_printer.specs.Pieces.{further}
use Rattle.ir_printer.specs.Functions.{named_param}
use Rattle.ir_printer.proofs.writer.Writer.further_params.Given as goal

-- what is written and what is to come are the whole
abbrev pub invariant-loop-params : goal.invariant-loop-params
invariant-loop-params l = l.self ++ text_of (further (map named_param l.params)) ≡ l.initial.self ++ text_of (further (map named_param l.fn.params))

abbrev pub decreases-loop-params : goal.decreases-loop-params
decreases-loop-params l = length l.params
