use Rattle.std.proofs.Common.{◌≡◌, ◌<◌, ℕ, []}
use Rattle.graph_cycles.specs.code.Search as spec
use Rattle.graph_cycles.proofs.cycles.on_cycle.Given as goal

abbrev pub invariant-loop-v : goal.invariant-loop-v
invariant-loop-v l = record {
  search : spec.IsSearchState l.graph l.search;
  idle : l.search.starts ≡ [];
  seen : (v : ℕ) → v < l.v → spec.IsSeen l.search.marks v;
}
