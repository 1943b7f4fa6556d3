use Rattle.std.proofs.Common.{length}
use Rattle.fused_parts.specs.code.Counting.{CountsTo}
use Rattle.fused_parts.proofs.flags.count_links.Given as goal

abbrev pub invariant-loop-rest : goal.invariant-loop-rest
invariant-loop-rest l = CountsTo l.links l.rest l.fn.table l.table

abbrev pub decreases-loop-rest : goal.decreases-loop-rest
decreases-loop-rest l = length l.rest
