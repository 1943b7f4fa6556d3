use Rattle.std.proofs.Common.{◌-◌, ◌≤◌, length}
use Rattle.base_profile.specs.code.Walked.{ArePositionsFrom}
use Rattle.base_profile.proofs.walk.positions.Given as goal

abbrev pub invariant-loop-rest : goal.invariant-loop-rest
invariant-loop-rest l = record {
  below : l.rest ≤ length l.walk;
  positions : ArePositionsFrom l.blocks l.rest (length l.blocks - l.rest) l.positions;
}

abbrev pub decreases-loop-rest : goal.decreases-loop-rest
decreases-loop-rest l = l.rest
