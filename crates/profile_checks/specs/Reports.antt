-- What is reported of a profile.
use Rattle.std.specs.Prelude.{◌≡◌, ℕ, Bool, true, false, List, [], ◌∷◌}
use Rattle.ir_module.specs.declared.places.Place.{Place}
use Rattle.ir_module.specs.declared.places.Spot.{Spot}
use Rattle.profile_rules.specs.declared.finding.Finding.{Finding}
use Rattle.profile_rules.specs.Findings.{AreFindings}
use Rattle.finding_lines.specs.Lines.{findings_text}
use Rattle.profile_checks.specs.declared.report.Report.{Report}

-- the letters `B` and `A` stand before the numbers of rules
abbrev pub base_letter : ℕ
base_letter = 66

abbrev pub adaptive_letter : ℕ
adaptive_letter = 65

abbrev pub is_clean : List Finding → Bool
is_clean [] = true
is_clean (f ∷ fs) = false

-- it tells these findings
pub record Tells (letter : ℕ) (places : List (Spot × Place)) (found : List Finding) (report : Report) : Type 0 where
  pub clean : report.clean ≡ is_clean found
  pub text : report.text ≡ findings_text letter places found

-- it tells exactly the violations, in order, each once
pub record IsReport (letter : ℕ) (places : List (Spot × Place)) (Violates : Spot → ℕ → Type 0) (report : Report) : Type 0 where
  pub found : List Finding
  pub are : AreFindings Violates found
  pub tells : Tells letter places found report
