use Rattle.std.proofs.Common.{◌≡◌, ◌++◌, length}
use Rattle.returning_edges.specs.code.Split.{singles}
use Rattle.returning_edges.proofs.split.push_singles.Given as goal

abbrev pub invariant-loop-targets : goal.invariant-loop-targets
invariant-loop-targets l = l.split ++ singles l.targets ≡ l.fn.split ++ singles l.fn.targets

abbrev pub decreases-loop-targets : goal.decreases-loop-targets
decreases-loop-targets l = length l.targets
