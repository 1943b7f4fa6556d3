use Rattle.std.proofs.Common.{◌≡◌, ◌++◌, ◌+◌, ◌<◌, ◌^◌, length}
use Rattle.name_flow.specs.code.Marks as spec
use Rattle.name_flow.proofs.marks.push_results.Given as goal

abbrev pub invariant-loop-insts : goal.invariant-loop-insts
invariant-loop-insts l = record { sum : l.marks ++ spec.gather (spec.inst_defined l.b) l.i l.insts ≡ l.fn.marks ++ spec.gather (spec.inst_defined l.b) l.fn.i l.fn.insts; fits : l.i + length l.insts < 2 ^ 64 }

abbrev pub decreases-loop-insts : goal.decreases-loop-insts
decreases-loop-insts l = length l.insts
