use Rattle.std.proofs.Common.{◌≡◌, ◌≤◌, ℕ, take, length, slice_get}
use Rattle.graph_cycles.specs.code.Search as spec
use Rattle.graph_cycles.proofs.search.Search.close.Given as goal

abbrev pub invariant-loop-last : goal.invariant-loop-last
invariant-loop-last l = record {
  opens : l.self.opens ≡ take (length l.self.opens) l.fn.self.opens;
  from : l.last.members ≤ length l.self.opens;
  within : length l.self.opens ≤ length l.fn.self.opens;
  sized : length l.self.marks ≡ length l.fn.self.marks;
  marks : (w : ℕ) → slice_get l.self.marks w ≡ spec.closed_from (length l.self.opens) l.last.cyclic (slice_get l.fn.self.marks w);
  targets : l.self.targets ≡ l.fn.self.targets;
  starts : l.self.starts ≡ l.fn.self.starts;
}

abbrev pub decreases-loop-last : goal.decreases-loop-last
decreases-loop-last l = length l.self.opens
