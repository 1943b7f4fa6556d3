-- What it is to pass a profile (QIR specification, 'Profiles').
use Rattle.std.specs.Prelude.{◌≡◌, ℕ, Some}
use Rattle.ir_module.specs.declared.places.Spot.{Spot}
use Rattle.ir_module.specs.declared.tree.Module.{Module}
use Rattle.ir_module.specs.Entry.{Entry, entry_of}
use Rattle.kept_items.specs.declared.target.Target.{Target}
use Rattle.kept_items.specs.declared.target.Target.TheVariants as target
use Rattle.profile_rules.specs.declared.finding.Form.TheVariants as form
use Rattle.profile_rules.specs.Adaptive.{ViolatesAdaptive}
use Rattle.profile_rules.specs.Base.{ViolatesBase}

-- the module, whose entry has the number e, breaks no rule of the Base Profile in its strict form
abbrev pub PassesBase : Module → ℕ → Type 0
PassesBase m e = (s : Spot) (rule : ℕ) → ViolatesBase form.Strict m e s rule → ⊥

-- it breaks no rule of the Adaptive Profile
abbrev pub PassesAdaptive : Module → ℕ → Type 0
PassesAdaptive m e = (s : Spot) (rule : ℕ) → ViolatesAdaptive m e s rule → ⊥

abbrev pub KeepsRules : Target → Module → ℕ → Type 0
KeepsRules target.Base m e = PassesBase m e
KeepsRules (target.Adaptive caps) m e = PassesAdaptive m e

-- the module has an entry, and breaks no rule of the target's profile
pub record Passes (m : Module) (t : Target) : Type 0 where
  pub entry : Entry
  pub is : entry_of m ≡ Some entry
  pub keeps : KeepsRules t m entry.number
