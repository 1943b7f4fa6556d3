use Rattle.std.proofs.Common.{◌≡◌, ◌++◌, length}
use Rattle.returning_edges.specs.code.Split.{chosen}
use Rattle.returning_edges.proofs.answers.push_edges.Given as goal

abbrev pub invariant-loop-nodes : goal.invariant-loop-nodes
invariant-loop-nodes l = l.found ++ chosen l.on l.split l.source l.nodes ≡ l.fn.found ++ chosen l.on l.split l.source l.fn.nodes

abbrev pub decreases-loop-nodes : goal.decreases-loop-nodes
decreases-loop-nodes l = length l.nodes
