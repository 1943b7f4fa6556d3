use Rattle.std.proofs.Common.{length}
use Rattle.fused_parts.specs.code.Counting.{AreCountedTo}
use Rattle.fused_parts.proofs.flags.count_edges.Given as goal

abbrev pub invariant-loop-rest : goal.invariant-loop-rest
invariant-loop-rest l = AreCountedTo l.nodes l.rest l.table

abbrev pub decreases-loop-rest : goal.decreases-loop-rest
decreases-loop-rest l = length l.rest
