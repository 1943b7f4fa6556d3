use Rattle.std.proofs.Common.{◌≡◌, ◌+◌, length}
use Rattle.lowered_program.specs.code.Counts.{parts_count}
use Rattle.lowered_program.proofs.given.parts_give.Given as goal

abbrev pub invariant-loop-rest : goal.invariant-loop-rest
invariant-loop-rest l = parts_count l.parts ≡ l.count + parts_count l.rest

abbrev pub decreases-loop-rest : goal.decreases-loop-rest
decreases-loop-rest l = length l.rest
