use Rattle.std.proofs.Common.{◌≡◌, ◌+◌, length}
use Rattle.adaptive_profile.specs.code.Returns.{first_return}
use Rattle.adaptive_profile.proofs.flow.first_return.Given as goal

abbrev pub invariant-loop-blocks : goal.invariant-loop-blocks
invariant-loop-blocks l = record {
  first : l.number + first_return l.blocks ≡ first_return l.fn.blocks;
  counted : l.number + length l.blocks ≡ length l.fn.blocks;
}

abbrev pub decreases-loop-blocks : goal.decreases-loop-blocks
decreases-loop-blocks l = length l.blocks
