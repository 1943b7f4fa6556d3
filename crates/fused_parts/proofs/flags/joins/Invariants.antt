use Rattle.std.proofs.Common.{◌≡◌, ◌+◌, ◌++◌, length}
use Rattle.fused_parts.specs.Nodes.{joins, joins_from}
use Rattle.fused_parts.proofs.flags.joins.Given as goal

abbrev pub invariant-loop-rest : goal.invariant-loop-rest
invariant-loop-rest l = record {
  whole : joins l.nodes ≡ l.flags ++ joins_from l.nodes l.next l.rest;
  left : l.next + length l.rest ≡ length l.nodes;
}

abbrev pub decreases-loop-rest : goal.decreases-loop-rest
decreases-loop-rest l = length l.rest
