use Rattle.std.proofs.Common.{◌≡◌, ◌++◌, take}
use Rattle.type_check.specs.code.Arcs as spec
use Rattle.type_check.proofs.arcs.push_arcs_from.Given as goal

abbrev pub invariant-loop-i : goal.invariant-loop-i
invariant-loop-i l = l.arcs ≡ l.fn.arcs ++ spec.arcs_from l.n (take l.i l.edges)
