use Rattle.std.proofs.Common.{◌≡◌, length}
use Rattle.type_check.specs.code.Cases.{differ_from}
use Rattle.type_check.proofs.cases.differ_from.Given as goal

abbrev pub invariant-loop-cases : goal.invariant-loop-cases
invariant-loop-cases l = differ_from l.seen.keys l.cases ≡ differ_from l.fn.seen.keys l.fn.cases

abbrev pub decreases-loop-cases : goal.decreases-loop-cases
decreases-loop-cases l = length l.cases
