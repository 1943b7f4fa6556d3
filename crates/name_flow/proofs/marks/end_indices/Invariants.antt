use Rattle.std.proofs.Common.{◌≡◌, ◌++◌, map, length}
use Rattle.name_flow.specs.code.Marks as spec
use Rattle.name_flow.proofs.marks.end_indices.Given as goal

abbrev pub invariant-loop-blocks : goal.invariant-loop-blocks
invariant-loop-blocks l = l.last ++ map spec.end_index l.blocks ≡ map spec.end_index l.fn.blocks

abbrev pub decreases-loop-blocks : goal.decreases-loop-blocks
decreases-loop-blocks l = length l.blocks
