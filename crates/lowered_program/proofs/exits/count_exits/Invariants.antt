use Rattle.std.proofs.Common.{◌≡◌, ◌≤◌, ◌+◌, length}
use Rattle.lowered_program.specs.Residues.{count_exits}
use Rattle.lowered_program.proofs.exits.count_exits.Given as goal

abbrev pub invariant-loop-rest : goal.invariant-loop-rest
invariant-loop-rest l = record {
  whole : count_exits l.nodes ≡ l.count + count_exits l.rest;
  few : l.count + length l.rest ≤ length l.nodes;
}

abbrev pub decreases-loop-rest : goal.decreases-loop-rest
decreases-loop-rest l = length l.rest
