-- What the list along the tree is.
use Rattle.std.specs.Prelude.{◌≡◌, ℕ, Bool, Some, slice_get}
use Rattle.ir_module.specs.declared.places.Point.{Point}
use Rattle.ir_module.specs.declared.tree.Function.{Function}
use Rattle.ir_module.specs.declared.tree.Module.{Module}
use Rattle.ir_module.specs.Steps.{Step}
use Rattle.profile_rules.specs.declared.finding.Form.{Form}
use Rattle.profile_rules.specs.Adaptive.{adaptive_rules_by, ViolatesAdaptive}
use Rattle.profile_rules.specs.Base.{base_rules, ViolatesBase}
use Rattle.profile_rules.specs.code.Listed.{AreNumbered, findings}
use Rattle.profile_rules.specs.code.Tables.{AreTables}
use Rattle.profile_rules.specs.Findings.{Rules, AreFindings, Breaks}

-- for any rules in the order of their numbers it is exactly what a module breaks
abbrev pub ListIsExact : Type 0
ListIsExact = (rules : Rules) → AreNumbered rules → (m : Module) → AreFindings (Breaks rules m) (findings rules m)

-- for the rules of the Base Profile it is exactly the violations of it
abbrev pub BaseListIsExact : Type 0
BaseListIsExact =
    (shape : Form) (m : Module) (e : ℕ) (entry : Function)
    → slice_get m.funcs e ≡ Some entry
    → AreFindings (ViolatesBase shape m e) (findings (base_rules shape m e entry) m)

-- for those of the Adaptive Profile it is, with right tables, exactly the violations of it
abbrev pub AdaptiveListIsExact : Type 0
AdaptiveListIsExact =
    (m : Module) (e : ℕ) (cyclic : Point → Bool) (returning : Point → Step → Bool)
    → AreTables m cyclic returning
    → AreFindings (ViolatesAdaptive m e) (findings (adaptive_rules_by cyclic returning m e) m)
