use Rattle.std.proofs.Common.{◌≡◌, ◌++◌, length}
use Rattle.std.specs.Prelude.{flat_map}
use Rattle.ir_parts.specs.Parts.{text_of}
use Rattle.ir_printer.specs.Functions.{phi_line}
use Rattle.ir_printer.proofs.writer.Writer.phis.Given as goal

-- what is written and what is to come are the whole
abbrev pub invariant-loop-phis : goal.invariant-loop-phis
invariant-loop-phis l = l.self ++ text_of (flat_map (phi_line l.m l.f) l.phis) ≡ l.initial.self ++ text_of (flat_map (phi_line l.m l.f) l.fn.phis)

abbrev pub decreases-loop-phis : goal.decreases-loop-phis
decreases-loop-phis l = length l.phis
