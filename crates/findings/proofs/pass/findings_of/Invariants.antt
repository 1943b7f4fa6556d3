use Rattle.std.proofs.Common.{◌≡◌, ◌++◌}
use Rattle.std.proofs.Math.ListN.{drop}
use Rattle.profile_rules.specs.code.Listed.{function_findings, findings}
use Rattle.findings.proofs.pass.findings_of.Given as goal

abbrev pub invariant-loop-number : goal.invariant-loop-number
invariant-loop-number g l = l.found ++ function_findings (g.P.Profile.rules l.profile) l.number (drop l.number l.m.funcs) ≡ findings (g.P.Profile.rules l.profile) l.m
