use Rattle.std.proofs.Common.{◌≡◌, ◌++◌, length}
use Rattle.std.specs.Prelude.{flat_map}
use Rattle.ir_parts.specs.Parts.{text_of}
use Rattle.ir_printer.specs.Functions.{further_block}
use Rattle.ir_printer.proofs.writer.Writer.further_blocks.Given as goal

-- what is written and what is to come are the whole
abbrev pub invariant-loop-blocks : goal.invariant-loop-blocks
invariant-loop-blocks l = l.self ++ text_of (flat_map (further_block l.m l.f) l.blocks) ≡ l.initial.self ++ text_of (flat_map (further_block l.m l.f) l.fn.blocks)

abbrev pub decreases-loop-blocks : goal.decreases-loop-blocks
decreases-loop-blocks l = length l.blocks
