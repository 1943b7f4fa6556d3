use Rattle.std.proofs.Common.{◌≡◌, ◌++◌, length}
use Rattle.fused_parts.specs.code.Starts.{starts, starts_from}
use Rattle.fused_parts.proofs.layout.starts.Given as goal

abbrev pub invariant-loop-rest : goal.invariant-loop-rest
invariant-loop-rest l = starts l.flags ≡ l.table ++ starts_from l.number l.rest

abbrev pub decreases-loop-rest : goal.decreases-loop-rest
decreases-loop-rest l = length l.rest
