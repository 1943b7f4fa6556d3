use Rattle.std.proofs.Common.{◌≡◌, ℕ, ◌++◌, map, length}
use Rattle.returning_edges.proofs.answers.push_targets.Given as goal

abbrev pub invariant-loop-targets : goal.invariant-loop-targets
invariant-loop-targets l = l.found ++ map (λ (v : ℕ). (l.source, v)) l.targets ≡ l.fn.found ++ map (λ (v : ℕ). (l.source, v)) l.fn.targets

abbrev pub decreases-loop-targets : goal.decreases-loop-targets
decreases-loop-targets l = length l.targets
