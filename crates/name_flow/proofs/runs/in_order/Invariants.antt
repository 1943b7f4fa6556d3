use Rattle.std.proofs.Common.{◌≡◌, ◌++◌, map, length}
use Rattle.name_flow.specs.code.Runs as spec
use Rattle.name_flow.proofs.runs.in_order.Given as goal

abbrev pub invariant-loop-pairs : goal.invariant-loop-pairs
invariant-loop-pairs l = l.blocks ++ map spec.block_of l.pairs ≡ map spec.block_of l.fn.pairs

abbrev pub decreases-loop-pairs : goal.decreases-loop-pairs
decreases-loop-pairs l = length l.pairs
