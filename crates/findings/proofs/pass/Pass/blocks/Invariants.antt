use Rattle.std.proofs.Common.{◌≡◌, ◌++◌}
use Rattle.std.proofs.Math.ListN.{drop}
use Rattle.profile_rules.specs.code.Listed.{block_findings}
use Rattle.findings.proofs.pass.Pass.blocks.Given as goal

abbrev pub invariant-loop-number : goal.invariant-loop-number
invariant-loop-number g l = l.found ++ block_findings (g.P.Profile.rules l.self.profile.now) l.self.number.0 l.self.function.now l.number (drop l.number l.blocks) ≡ l.fn.found ++ block_findings (g.P.Profile.rules l.self.profile.now) l.self.number.0 l.self.function.now 0 l.blocks
