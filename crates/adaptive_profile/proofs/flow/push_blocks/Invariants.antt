use Rattle.std.proofs.Common.{◌≡◌, ◌++◌, length}
use Rattle.adaptive_profile.specs.code.Graphs.{called_in}
use Rattle.adaptive_profile.proofs.flow.push_blocks.Given as goal

abbrev pub invariant-loop-blocks : goal.invariant-loop-blocks
invariant-loop-blocks l = l.callees ++ called_in l.blocks ≡ l.fn.callees ++ called_in l.fn.blocks

abbrev pub decreases-loop-blocks : goal.decreases-loop-blocks
decreases-loop-blocks l = length l.blocks
