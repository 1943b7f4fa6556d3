use Rattle.std.proofs.Common.{◌≡◌, ◌≤◌, ℕ, List, length}
use Rattle.graph_cycles.specs.Cycles.{Graph}
use Rattle.graph_cycles.specs.code.Search as spec
use Rattle.graph_cycles.proofs.Merged.{Merging}
use Rattle.graph_cycles.proofs.search.Search.merge.Given as goal

abbrev pub invariant-loop-last : goal.invariant-loop-last
invariant-loop-last l = record {
  marks : l.self.marks ≡ l.fn.self.marks;
  opens : l.self.opens ≡ l.fn.self.opens;
  targets : l.self.targets ≡ l.fn.self.targets;
  fewer : length l.self.starts ≤ length l.fn.self.starts;
  merging : (g : Graph) (targets : List ℕ) (k : ℕ) → spec.AreComponents g l.fn.self.marks l.fn.self.opens targets (length l.fn.self.opens) k l.fn.self.starts → Merging g l.fn.self.marks l.fn.self.opens targets k l.p l.self.starts;
}

abbrev pub decreases-loop-last : goal.decreases-loop-last
decreases-loop-last l = length l.self.starts
