use Rattle.std.proofs.Common.{List, map, length}
use Rattle.name_flow.specs.code.Runs.{name_first}
use Rattle.name_flow.specs.code.Spread.{Pair, IsSeeded}
use Rattle.name_flow.proofs.spread.seed.Given as goal

-- what is still to be seeded makes the whole
abbrev pub invariant-loop-uses : goal.invariant-loop-uses
invariant-loop-uses l = (last : List Pair) → IsSeeded (map name_first l.uses) l.defined l.starts last → IsSeeded (map name_first l.fn.uses) l.defined l.fn.starts last

abbrev pub decreases-loop-uses : goal.decreases-loop-uses
decreases-loop-uses l = length l.uses
