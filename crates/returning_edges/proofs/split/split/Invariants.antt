use Rattle.std.proofs.Common.{◌≡◌, ◌++◌, ◌+◌, length}
use Rattle.returning_edges.specs.code.Split.{edge_lists, all_targets}
use Rattle.returning_edges.proofs.split.split.Given as goal

abbrev pub invariant-loop-nodes : goal.invariant-loop-nodes
invariant-loop-nodes l = record {
  lists : l.split ++ edge_lists (length l.graph + length l.targets) l.nodes ≡ edge_lists (length l.graph) l.graph;
  targets : l.targets ++ all_targets l.nodes ≡ all_targets l.graph;
}

abbrev pub decreases-loop-nodes : goal.decreases-loop-nodes
decreases-loop-nodes l = length l.nodes
