use Rattle.std.proofs.Common.{ℕ}
use Rattle.graph_cycles.specs.code.Search as spec
use Rattle.graph_cycles.proofs.search.Search.finish.Given as goal

abbrev pub invariant-loop-last : goal.invariant-loop-last
invariant-loop-last l = record {
  search : spec.IsSearchState l.graph l.self;
  kept : (v : ℕ) → spec.IsSeen l.fn.self.marks v → spec.IsSeen l.self.marks v;
}

abbrev pub decreases-loop-last : goal.decreases-loop-last
decreases-loop-last l = spec.left l.graph l.self
