use Rattle.std.proofs.Common.{ltb, ◌-◌, ◌^◌}
use Rattle.name_flow.specs.code.Spread.{EntersWhere}
use Rattle.name_flow.proofs.spread.Spread.enter.Given as goal

abbrev pub invariant-loop-p : goal.invariant-loop-p
invariant-loop-p l = EntersWhere (λ q. ltb q l.from) l.defined l.edges l.b l.x l.fn.self.starts l.fn.self.ends l.self.starts l.self.ends

abbrev pub decreases-loop-p : goal.decreases-loop-p
decreases-loop-p l = 2 ^ 64 - l.from
