use Rattle.std.proofs.Common.{subst}
use Rattle.std.proofs.lemmas.Result.{IfOk-weaker}
use Rattle.ir_module.specs.declared.tree.Module.{Module}
use Rattle.ir_module.specs.Entry.{entry_of}
use Rattle.profile_rules.specs.Adaptive.{ViolatesAdaptive}
use Rattle.profile_rules.specs.Findings.{AreFindings}
use Rattle.profile_checks.specs.Checks.{ViolatesAdaptiveProfile}
use Rattle.profile_checks.proofs.Entries.{by-entry}
use Rattle.profile_checks.proofs.checks.check_adaptive.Goals as goal

pub returns : goal.returns
returns c =
    let m = c.args.c.now.tree in
    let e = c.entry.result.0 in
    IfOk-weaker c.adaptive.result (AreFindings (ViolatesAdaptive c.module.result.now e)) (AreFindings (ViolatesAdaptiveProfile m))
    (λ fs a. by-entry (ViolatesAdaptive m) (entry_of m) e c.entry.ensures.entry.number fs (subst (λ (n : Module). AreFindings (ViolatesAdaptive n e) fs) c.module.ensures.module a))
    c.adaptive.ensures
