use Rattle.std.proofs.Common.{◌≡◌, sym, subst}
use Rattle.std.proofs.lemmas.Result.{IfOk-weaker}
use Rattle.profile_rules.specs.Base.{base_rules, ViolatesBase}
use Rattle.profile_rules.specs.code.Listed.{findings}
use Rattle.profile_rules.specs.Findings.{AreFindings}
use Rattle.base_profile.proofs.violations.base.Goals as goal

pub returns : goal.returns
returns c =
    let m = c.args.m.now in
    let e = c.args.entry.0 in
    let entry = c.function-function.result.now in
    IfOk-weaker c.findings_of.result (λ fs. fs ≡ findings (base_rules c.args.form m e entry) m) (AreFindings (ViolatesBase c.args.form m e))
    (λ fs q. subst (AreFindings (ViolatesBase c.args.form m e)) (sym q) (c.base_lists_are_exact.ensures c.args.form m e entry c.function-function.ensures))
    c.findings_of.ensures
