use Rattle.std.proofs.Common.{◌≡◌, ◌+◌, ◌≤◌, length}
use Rattle.lowered_program.specs.code.Counts.{lines_count}
use Rattle.lowered_program.proofs.given.lines_give.Given as goal

abbrev pub invariant-loop-rest : goal.invariant-loop-rest
invariant-loop-rest l = record {
  whole : lines_count l.lines ≡ l.count + lines_count l.rest;
  few : l.count + length l.rest ≤ length l.lines;
}

abbrev pub decreases-loop-rest : goal.decreases-loop-rest
decreases-loop-rest l = length l.rest
