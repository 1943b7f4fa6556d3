use Rattle.std.proofs.Common.{◌≡◌, ◌++◌, ◌+◌, ◌<◌, ◌^◌, length}
use Rattle.name_flow.specs.code.Marks as spec
use Rattle.name_flow.proofs.marks.push_edges.Given as goal

abbrev pub invariant-loop-blocks : goal.invariant-loop-blocks
invariant-loop-blocks l = record { sum : l.marks ++ spec.gather spec.block_edges l.b l.blocks ≡ l.fn.marks ++ spec.gather spec.block_edges l.fn.b l.fn.blocks; fits : l.b + length l.blocks < 2 ^ 64 }

abbrev pub decreases-loop-blocks : goal.decreases-loop-blocks
decreases-loop-blocks l = length l.blocks
