use Rattle.std.proofs.Common.{◌≡◌, map, take}
use Rattle.graph_cycles.specs.code.Search as spec
use Rattle.graph_cycles.proofs.cycles.answers.Given as goal

abbrev pub invariant-loop-mark : goal.invariant-loop-mark
invariant-loop-mark l = l.on ≡ map spec.is_cyclic (take l.mark-index l.marks)
