use Rattle.std.proofs.Common.{◌≡◌, ap, ◌∙◌, sym, subst}
use Rattle.std.proofs.lemmas.Result.{IfOk-weaker}
use Rattle.ir_module.specs.Entry.{entry_of}
use Rattle.profile_rules.specs.Adaptive.{ViolatesAdaptive}
use Rattle.profile_checks.specs.Checks.{ViolatesAdaptiveProfile}
use Rattle.profile_checks.specs.Reports.{IsReport, Tells, adaptive_letter}
use Rattle.profile_checks.proofs.Entries.{have-places}
use Rattle.profile_checks.proofs.report.report_adaptive.Goals as goal

pub tell_report-requires : goal.tell_report-requires
tell_report-requires c =
    let m = c.args.c.now.tree in
    have-places (ViolatesAdaptive m) (entry_of m) c.args.places.now c.in_ok-found.found (λ e a. c.adaptive_findings_have_places.ensures m e c.args.places.now c.in_ok-found.found c.requires a) c.in_ok-found.ensures

pub returns : goal.returns
returns c =
    let m = c.args.c.now.tree in
    IfOk-weaker c.tell_report.result (Tells adaptive_letter c.args.places.now c.in_ok-found.found) (IsReport adaptive_letter c.args.places.now (ViolatesAdaptiveProfile m))
    (λ r t. record { found = c.in_ok-found.found; are = c.in_ok-found.ensures; tells = t }) c.tell_report.ensures
