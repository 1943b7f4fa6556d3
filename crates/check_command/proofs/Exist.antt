-- Every module has a report, and at most one.
use Rattle.std.proofs.Common.{◌≡◌, ◌∙◌, ℕ, Bool, Option, None, Some, List, [], slice_get, refl, sym, ap, subst}
use Rattle.ir_module.specs.declared.places.Place.{Place}
use Rattle.ir_module.specs.declared.places.Spot.{Spot}
use Rattle.ir_module.specs.declared.tree.Function.{Function}
use Rattle.ir_module.specs.declared.tree.Module.{Module}
use Rattle.ir_module.specs.Entry.{Entry, entry_of}
use Rattle.finding_lines.specs.Lines.{findings_text}
use Rattle.profile_rules.specs.declared.finding.Finding.{Finding}
use Rattle.profile_rules.specs.declared.finding.Form.{Form}
use Rattle.profile_rules.specs.Adaptive.{adaptive_rules_by, ViolatesAdaptive}
use Rattle.profile_rules.specs.Base.{base_rules, violates_base_of, ViolatesBase}
use Rattle.profile_rules.specs.code.Listed.{findings}
use Rattle.profile_rules.specs.Findings.{AreFindings}
use Rattle.profile_rules.specs.Laws.{AdaptiveListIsExact, BaseListIsExact}
use Rattle.profile_rules.proofs.Positions.{none}
use Rattle.profile_checks.specs.Checks.{of_entry}
use Rattle.profile_checks.specs.declared.report.Report.{Report}
use Rattle.profile_checks.specs.Reports.{IsReport, is_clean}
use Rattle.check_command.specs.declared.profile.Profile.{Profile}
use Rattle.check_command.specs.declared.profile.Profile.TheVariants as profile
use Rattle.check_command.specs.Laws.{ReportsAreOne, ReportsExist}
use Rattle.check_command.specs.Reporting.{Violates, letter_of}
use Rattle.check_command.proofs.Same.{findings-one}
use Rattle.check_command.proofs.Tables.{are-tables, cyclic, returning}

-- ---- there is one at most

abbrev report_with : Bool → List ℕ → Report
report_with clean text = record { clean = clean; text = text }

report-one : (letter : ℕ) (places : List (Spot × Place)) (V : Spot → ℕ → Type 0) (x y : Report) → IsReport letter places V x → IsReport letter places V y → x ≡ y
report-one letter places V x y a b =
    let e : a.found ≡ b.found = findings-one V a.found b.found a.are b.are in
    ap (λ clean. report_with clean x.text) (a.tells.clean ∙ ap is_clean e ∙ sym b.tells.clean)
    ∙ ap (report_with y.clean) (a.tells.text ∙ ap (findings_text letter places) e ∙ sym b.tells.text)

pub reports-one : ReportsAreOne
reports-one by m places x y a b = report-one (letter_of by) places (Violates by m) x y a b

-- ---- there is one

abbrev HasFindings : (Spot → ℕ → Type 0) → Type 0
HasFindings V = (fs : List Finding) × AreFindings V fs

nothing-found : AreFindings (λ s r. ⊥) []
nothing-found = record { ordered = tt; exact = λ s r. ((λ c. none (record { spot = s; rule = r }) c), (λ h. absurd h)) }

-- by the entry, if there is one
entry-findings : (V : ℕ → Spot → ℕ → Type 0) → ((e : ℕ) → HasFindings (V e)) → (o : Option Entry) → HasFindings (of_entry o V)
entry-findings V each None = ([], nothing-found)
entry-findings V each (Some e) = each e.number

module _ (law : BaseListIsExact) (shape : Form) (m : Module) (e : ℕ) where
  base-by : (o : Option Function) → slice_get m.funcs e ≡ o → HasFindings (ViolatesBase shape m e)
  base-by None q = ([], subst (λ o. AreFindings (λ s r. violates_base_of o shape m e s r) []) (sym q) nothing-found)
  base-by (Some f) q = (findings (base_rules shape m e f) m, law shape m e f q)

  base-findings : HasFindings (ViolatesBase shape m e)
  base-findings = base-by (slice_get m.funcs e) refl

adaptive-findings : AdaptiveListIsExact → (m : Module) (e : ℕ) → HasFindings (ViolatesAdaptive m e)
adaptive-findings law m e = (findings (adaptive_rules_by (cyclic m) (returning m) m e) m, law m e (cyclic m) (returning m) (are-tables m))

module _ (base : BaseListIsExact) (adaptive : AdaptiveListIsExact) where
  has-findings : (by : Profile) (m : Module) → HasFindings (Violates by m)
  has-findings (profile.Base shape) m = entry-findings (ViolatesBase shape m) (base-findings base shape m) (entry_of m)
  has-findings profile.Adaptive m = entry-findings (ViolatesAdaptive m) (adaptive-findings adaptive m) (entry_of m)

  pub reports-exist : ReportsExist
  reports-exist by m places =
      let h = has-findings by m in
      let x : Report = report_with (is_clean h.0) (findings_text (letter_of by) places h.0) in
      (x, record { found = h.0; are = h.1; tells = record { clean = refl; text = refl } })
