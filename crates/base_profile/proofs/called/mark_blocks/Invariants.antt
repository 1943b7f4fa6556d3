use Rattle.std.proofs.Common.{◌≡◌, length}
use Rattle.base_profile.specs.code.Called.{mark_blocks}
use Rattle.base_profile.proofs.called.mark_blocks.Given as goal

abbrev pub invariant-loop-blocks : goal.invariant-loop-blocks
invariant-loop-blocks l = mark_blocks l.on l.blocks ≡ mark_blocks l.fn.on l.fn.blocks

abbrev pub decreases-loop-blocks : goal.decreases-loop-blocks
decreases-loop-blocks l = length l.blocks
