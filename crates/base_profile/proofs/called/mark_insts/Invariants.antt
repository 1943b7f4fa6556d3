use Rattle.std.proofs.Common.{◌≡◌, length}
use Rattle.base_profile.specs.code.Called.{mark_insts}
use Rattle.base_profile.proofs.called.mark_insts.Given as goal

abbrev pub invariant-loop-insts : goal.invariant-loop-insts
invariant-loop-insts l = mark_insts l.on l.insts ≡ mark_insts l.fn.on l.fn.insts

abbrev pub decreases-loop-insts : goal.decreases-loop-insts
decreases-loop-insts l = length l.insts
