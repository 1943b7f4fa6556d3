use Rattle.std.proofs.Common.{◌≡◌, ◌++◌, ◌+◌, ◌<◌, ◌^◌, length}
use Rattle.name_flow.specs.code.Marks as spec
use Rattle.name_flow.proofs.marks.push_phi_results.Given as goal

abbrev pub invariant-loop-phis : goal.invariant-loop-phis
invariant-loop-phis l = record { sum : l.marks ++ spec.gather (spec.phi_defined l.b) l.i l.phis ≡ l.fn.marks ++ spec.gather (spec.phi_defined l.b) l.fn.i l.fn.phis; fits : l.i + length l.phis < 2 ^ 64 }

abbrev pub decreases-loop-phis : goal.decreases-loop-phis
decreases-loop-phis l = length l.phis
