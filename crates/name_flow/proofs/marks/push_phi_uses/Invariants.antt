use Rattle.std.proofs.Common.{◌≡◌, ◌++◌, ◌+◌, ◌<◌, ◌^◌, length}
use Rattle.name_flow.specs.code.Marks as spec
use Rattle.name_flow.proofs.marks.push_phi_uses.Given as goal

abbrev pub invariant-loop-some : goal.invariant-loop-some
invariant-loop-some l = record { sum : l.marks ++ spec.gather (spec.block_phis_used l.blocks l.edges) l.b l.some ≡ l.fn.marks ++ spec.gather (spec.block_phis_used l.blocks l.edges) l.fn.b l.fn.some; fits : l.b + length l.some < 2 ^ 64 }

abbrev pub decreases-loop-some : goal.decreases-loop-some
decreases-loop-some l = length l.some
