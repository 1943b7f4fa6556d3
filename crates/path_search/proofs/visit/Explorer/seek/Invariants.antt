use Rattle.std.proofs.Common.{◌≡◌, ◌<◌, length}
use Rattle.path_search.specs.code.Visit.{IsVisit, work}
use Rattle.path_search.specs.code.Steps.{search}
use Rattle.path_search.proofs.visit.Explorer.seek.Given as goal

abbrev pub invariant-moves : goal.invariant-moves
invariant-moves g l = record {
  visit : IsVisit (search (g.G.Graph.start l.self.graph.now) (g.G.Graph.turn l.self.graph.now) l.self.limits) l.visit.table l.visit.marks l.visit.found l.visit.stack;
  inside : 0 < length l.visit.stack;
  table : l.visit.table ≡ l.fn.visit.table;
  found : l.visit.found ≡ l.fn.visit.found;
}

abbrev pub decreases-moves : goal.decreases-moves
decreases-moves g l = work l.visit.found l.visit.stack
