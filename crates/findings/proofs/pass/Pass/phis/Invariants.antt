use Rattle.std.proofs.Common.{◌≡◌, ◌++◌, ◌+◌, ◌<◌, ◌^◌, length, map}
use Rattle.ir_module.specs.Steps.{PhiAt}
use Rattle.profile_rules.specs.code.Listed.{step_findings}
use Rattle.findings.proofs.pass.Pass.phis.Given as goal

abbrev pub invariant-loop-phis : goal.invariant-loop-phis
invariant-loop-phis g l = record {
  sum : l.found ++ step_findings (g.P.Profile.rules l.self.profile.now) l.self.number.0 l.self.function.now l.block.0 l.index (map PhiAt l.phis) ≡ l.fn.found ++ step_findings (g.P.Profile.rules l.self.profile.now) l.self.number.0 l.self.function.now l.block.0 l.fn.index (map PhiAt l.fn.phis);
  fits : l.index + length l.phis < 2 ^ 64;
}

abbrev pub decreases-loop-phis : goal.decreases-loop-phis
decreases-loop-phis g l = length l.phis
