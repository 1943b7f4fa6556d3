use Rattle.std.proofs.Common.{take}
use Rattle.admission.specs.code.Tables.{AreFlowsOf}
use Rattle.admission.proofs.tables.flows.Given as goal

abbrev pub invariant-loop-g : goal.invariant-loop-g
invariant-loop-g l = AreFlowsOf (take l.g l.m.funcs) l.flows
