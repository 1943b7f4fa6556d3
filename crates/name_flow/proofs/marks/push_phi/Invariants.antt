use Rattle.std.proofs.Common.{◌≡◌, ◌++◌, length}
use Rattle.name_flow.specs.code.Marks as spec
use Rattle.name_flow.proofs.marks.push_phi.Given as goal

abbrev pub invariant-loop-entries : goal.invariant-loop-entries
invariant-loop-entries l = l.marks ++ spec.entries_used l.blocks l.edges l.b l.entries ≡ l.fn.marks ++ spec.entries_used l.blocks l.edges l.b l.fn.entries

abbrev pub decreases-loop-entries : goal.decreases-loop-entries
decreases-loop-entries l = length l.entries
