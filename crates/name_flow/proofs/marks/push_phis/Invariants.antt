use Rattle.std.proofs.Common.{◌≡◌, ◌++◌, length}
use Rattle.name_flow.specs.code.Marks as spec
use Rattle.name_flow.proofs.marks.push_phis.Given as goal

abbrev pub invariant-loop-phis : goal.invariant-loop-phis
invariant-loop-phis l = l.marks ++ spec.phis_used l.blocks l.edges l.b l.phis ≡ l.fn.marks ++ spec.phis_used l.blocks l.edges l.b l.fn.phis

abbrev pub decreases-loop-phis : goal.decreases-loop-phis
decreases-loop-phis l = length l.phis
