use Rattle.std.proofs.Common.{◌≡◌, ◌++◌, length}
use Rattle.std.specs.Prelude.{flat_map}
use Rattle.ir_parts.specs.Parts.{text_of}
use Rattle.ir_printer.specs.Functions.{inst_line}
use Rattle.ir_printer.proofs.writer.Writer.insts.Given as goal

-- what is written and what is to come are the whole
abbrev pub invariant-loop-insts : goal.invariant-loop-insts
invariant-loop-insts l = l.self ++ text_of (flat_map (inst_line l.m l.f) l.insts) ≡ l.initial.self ++ text_of (flat_map (inst_line l.m l.f) l.fn.insts)

abbrev pub decreases-loop-insts : goal.decreases-loop-insts
decreases-loop-insts l = length l.insts
