use Rattle.std.proofs.Common.{◌≡◌, ◌++◌, length}
use Rattle.adaptive_profile.specs.code.Graphs.{called_by}
use Rattle.adaptive_profile.proofs.flow.push_insts.Given as goal

abbrev pub invariant-loop-insts : goal.invariant-loop-insts
invariant-loop-insts l = l.callees ++ called_by l.insts ≡ l.fn.callees ++ called_by l.fn.insts

abbrev pub decreases-loop-insts : goal.decreases-loop-insts
decreases-loop-insts l = length l.insts
