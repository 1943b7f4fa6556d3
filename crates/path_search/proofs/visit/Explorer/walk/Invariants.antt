use Rattle.std.proofs.Common.{◌-◌, length}
use Rattle.std.specs.Prelude.{MatchOption}
use Rattle.path_search.specs.code.Visit.{IsVisit, Reaches, Keeps, IsDone}
use Rattle.path_search.specs.code.Steps.{search}
use Rattle.path_search.proofs.visit.Explorer.walk.Given as goal

abbrev pub invariant-loop-next : goal.invariant-loop-next
invariant-loop-next g l = record {
  keeps : Keeps (g.G.Graph.IsValid l.self.graph.now) (g.G.Graph.Carries l.self.graph.now) l.visit.table l.visit.found;
  state : MatchOption l.next (IsDone (search (g.G.Graph.start l.self.graph.now) (g.G.Graph.turn l.self.graph.now) l.self.limits) l.visit.table l.visit.marks l.visit.found)
      (λ i. IsVisit (search (g.G.Graph.start l.self.graph.now) (g.G.Graph.turn l.self.graph.now) l.self.limits) l.visit.table l.visit.marks l.visit.found l.visit.stack
      × Reaches (search (g.G.Graph.start l.self.graph.now) (g.G.Graph.turn l.self.graph.now) l.self.limits) l.visit.table l.visit.marks l.visit.stack i);
}

abbrev pub decreases-loop-next : goal.decreases-loop-next
decreases-loop-next g l = l.self.limits.budget - length l.visit.found
