use Rattle.std.proofs.Common.{map, ◌-◌, ◌^◌}
use Rattle.name_flow.specs.code.Runs.{name_first}
use Rattle.name_flow.specs.code.Spread.{IsSpread, AreEntered}
use Rattle.name_flow.proofs.spread.ends.Given as goal

abbrev pub invariant-loop-done : goal.invariant-loop-done
invariant-loop-done l = record {
  spread : IsSpread (map name_first l.uses) l.defined l.edges l.spread.starts l.spread.ends;
  entered : AreEntered l.edges l.spread.starts l.spread.ends l.done;
}

abbrev pub decreases-loop-done : goal.decreases-loop-done
decreases-loop-done l = 2 ^ 64 - l.done
