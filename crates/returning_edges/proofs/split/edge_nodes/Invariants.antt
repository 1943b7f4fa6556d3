use Rattle.std.proofs.Common.{◌≡◌, ◌++◌, ◌+◌, length}
use Rattle.returning_edges.specs.code.Split.{numbers_from}
use Rattle.returning_edges.proofs.split.edge_nodes.Given as goal

abbrev pub invariant-loop-edges : goal.invariant-loop-edges
invariant-loop-edges l = record {
  nodes : l.nodes ++ numbers_from (length l.graph + length l.targets) (length l.edges) ≡ numbers_from (length l.graph + length l.fn.targets) (length l.fn.edges);
  targets : l.targets ++ l.edges ≡ l.fn.targets ++ l.fn.edges;
}

abbrev pub decreases-loop-edges : goal.decreases-loop-edges
decreases-loop-edges l = length l.edges
