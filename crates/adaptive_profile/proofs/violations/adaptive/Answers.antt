use Rattle.std.proofs.Common.{◌≡◌, sym, subst}
use Rattle.std.proofs.lemmas.Result.{IfOk-weaker}
use Rattle.profile_rules.specs.Adaptive.{adaptive_rules_by, number_called, ViolatesAdaptive}
use Rattle.profile_rules.specs.code.Listed.{findings}
use Rattle.profile_rules.specs.Findings.{AreFindings}
use Rattle.adaptive_profile.specs.code.Graphs.{TellLoops, is_cyclic}
use Rattle.adaptive_profile.specs.code.Pairs.{returns_by}
use Rattle.adaptive_profile.proofs.Told.{are-tables}
use Rattle.adaptive_profile.proofs.violations.adaptive.Goals as goal

pub returns : goal.returns
returns c =
    let m = c.args.m.now in
    let e = c.args.entry.0 in
    let rows = c.as_slice-5.result.now in
    let pairs = c.in_ok-returning.returning in
    let t : TellLoops m.funcs rows = subst (TellLoops m.funcs) (sym c.as_slice-5.ensures) c.in_ok-cyclic.ensures in
    IfOk-weaker c.findings_of.result
    (λ fs. fs ≡ findings (adaptive_rules_by (λ p. is_cyclic rows p) (λ p s. returns_by pairs p.func.0 (number_called s)) m e) m)
    (AreFindings (ViolatesAdaptive m e))
    (λ fs q. subst (AreFindings (ViolatesAdaptive m e)) (sym q)
    (c.adaptive_lists_are_exact.ensures m e (λ p. is_cyclic rows p) (λ p s. returns_by pairs p.func.0 (number_called s)) (are-tables m pairs c.in_ok-returning.ensures rows t)))
    c.findings_of.ensures
