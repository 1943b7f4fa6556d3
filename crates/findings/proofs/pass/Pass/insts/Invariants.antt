use Rattle.std.proofs.Common.{◌≡◌, ◌++◌, ◌+◌, ◌<◌, ◌^◌, length, map}
use Rattle.ir_module.specs.Steps.{InstAt}
use Rattle.profile_rules.specs.code.Listed.{step_findings}
use Rattle.findings.proofs.pass.Pass.insts.Given as goal

abbrev pub invariant-loop-insts : goal.invariant-loop-insts
invariant-loop-insts g l = record {
  sum : l.found ++ step_findings (g.P.Profile.rules l.self.profile.now) l.self.number.0 l.self.function.now l.block.0 l.index (map InstAt l.insts) ≡ l.fn.found ++ step_findings (g.P.Profile.rules l.self.profile.now) l.self.number.0 l.self.function.now l.block.0 l.fn.index (map InstAt l.fn.insts);
  fits : l.index + length l.insts < 2 ^ 64;
}

abbrev pub decreases-loop-insts : goal.decreases-loop-insts
decreases-loop-insts g l = length l.insts
