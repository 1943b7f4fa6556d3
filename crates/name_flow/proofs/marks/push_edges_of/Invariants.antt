use Rattle.std.proofs.Common.{◌≡◌, ◌++◌, take}
use Rattle.name_flow.specs.code.Marks as spec
use Rattle.name_flow.proofs.marks.push_edges_of.Given as goal

abbrev pub invariant-loop-i : goal.invariant-loop-i
invariant-loop-i l = l.marks ≡ l.fn.marks ++ spec.edges_into l.b (take l.i l.edges)
