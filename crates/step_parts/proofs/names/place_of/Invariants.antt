use Rattle.std.proofs.Common.{◌≡◌, ◌+◌, length}
use Rattle.step_parts.specs.code.Places.{place}
use Rattle.step_parts.proofs.names.place_of.Given as goal

abbrev pub invariant-loop-rest : goal.invariant-loop-rest
invariant-loop-rest l = record {
  place : place l.x l.names ≡ l.place + place l.x l.rest;
  within : length l.names ≡ l.place + length l.rest;
}

abbrev pub decreases-loop-rest : goal.decreases-loop-rest
decreases-loop-rest l = length l.rest
