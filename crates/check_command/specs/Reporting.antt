-- The report of a module by a profile.
use Rattle.std.specs.Prelude.{ℕ, List}
use Rattle.ir_module.specs.declared.places.Place.{Place}
use Rattle.ir_module.specs.declared.places.Spot.{Spot}
use Rattle.ir_module.specs.declared.tree.Module.{Module}
use Rattle.profile_checks.specs.Checks.{ViolatesAdaptiveProfile, ViolatesBaseProfile}
use Rattle.profile_checks.specs.declared.report.Report.{Report}
use Rattle.profile_checks.specs.Reports.{IsReport, adaptive_letter, base_letter}
use Rattle.check_command.specs.declared.profile.Profile.{Profile}
use Rattle.check_command.specs.declared.profile.Profile.TheVariants as profile

-- the letter that stands before the number of a rule
abbrev pub letter_of : Profile → ℕ
letter_of (profile.Base shape) = base_letter
letter_of profile.Adaptive = adaptive_letter

-- the module breaks the rule of this number at the spot
abbrev pub Violates : Profile → Module → Spot → ℕ → Type 0
Violates (profile.Base shape) m = ViolatesBaseProfile shape m
Violates profile.Adaptive m = ViolatesAdaptiveProfile m

-- it tells exactly what the module breaks, in order, each once, with the place of each
abbrev pub Reports : Profile → Module → List (Spot × Place) → Report → Type 0
Reports by m places = IsReport (letter_of by) places (Violates by m)
