-- The violations of profiles, by the entry of the module.
use Rattle.std.specs.Prelude.{ℕ, Option, None, Some}
use Rattle.ir_module.specs.declared.places.Spot.{Spot}
use Rattle.ir_module.specs.declared.tree.Module.{Module}
use Rattle.ir_module.specs.Entry.{Entry, entry_of}
use Rattle.profile_rules.specs.declared.finding.Form.{Form}
use Rattle.profile_rules.specs.Adaptive.{ViolatesAdaptive}
use Rattle.profile_rules.specs.Base.{ViolatesBase}

-- by the entry, if there is one
abbrev pub of_entry : Option Entry → (ℕ → Spot → ℕ → Type 0) → Spot → ℕ → Type 0
of_entry None violates s r = ⊥
of_entry (Some e) violates s r = violates e.number s r

abbrev pub ViolatesBaseProfile : Form → Module → Spot → ℕ → Type 0
ViolatesBaseProfile form m = of_entry (entry_of m) (ViolatesBase form m)

abbrev pub ViolatesAdaptiveProfile : Module → Spot → ℕ → Type 0
ViolatesAdaptiveProfile m = of_entry (entry_of m) (ViolatesAdaptive m)
