use Rattle.std.proofs.Common.{◌≡◌, ◌++◌, length}
use Rattle.profile_rules.specs.code.Listed.{findings_at}
use Rattle.profile_rules.specs.Findings.{broken}
use Rattle.findings.proofs.verdict.tell.Given as goal

abbrev pub invariant-loop-verdicts : goal.invariant-loop-verdicts
invariant-loop-verdicts l = l.found ++ findings_at l.spot (broken (λ b. b) l.verdicts) ≡ l.fn.found ++ findings_at l.spot (broken (λ b. b) l.fn.verdicts)

abbrev pub decreases-loop-verdicts : goal.decreases-loop-verdicts
decreases-loop-verdicts l = length l.verdicts
