use Rattle.std.proofs.Common.{◌≡◌, ◌≤◌, ◌+◌, length}
use Rattle.static_steps.specs.Values.{dynamics}
use Rattle.dynamic_names.proofs.counting.count.Given as goal

abbrev pub invariant-loop-rest : goal.invariant-loop-rest
invariant-loop-rest l = record {
  counted : dynamics l.names ≡ l.n + dynamics l.rest;
  few : l.n + length l.rest ≤ length l.names;
}

abbrev pub decreases-loop-rest : goal.decreases-loop-rest
decreases-loop-rest l = length l.rest
