-- The text that tells findings: a line for each, and `OK` where there is none.
use Rattle.std.specs.Prelude.{◌≡◌, ℕ, Option, None, Some, IsSome, List, [], ◌∷◌, ◌++◌, map, codes, decimal}
use Rattle.ir_module.specs.declared.places.Place.{Place}
use Rattle.ir_module.specs.declared.places.Spot.{Spot}
use Rattle.ir_module.specs.declared.tree.Module.{Module}
use Rattle.ir_module.specs.Places.{place_of}
use Rattle.ir_module.specs.Spots.{spots}
use Rattle.profile_rules.specs.declared.finding.Finding.{Finding}
use Rattle.profile_rules.specs.declared.finding.Form.{Form}
use Rattle.profile_rules.specs.Adaptive.{ViolatesAdaptive}
use Rattle.profile_rules.specs.Base.{ViolatesBase}
use Rattle.profile_rules.specs.Findings.{AreFindings}

-- ---- lines

abbrev pub field : ℕ → List ℕ
field n = codes "\t" ++ decimal n

-- the letter of the profile, the number of the rule, and the end of the line
abbrev pub rule_field : ℕ → ℕ → List ℕ
rule_field letter rule = codes "\t" ++ ((letter ∷ decimal rule) ++ codes "\n")

abbrev pub line_at : ℕ → Place → ℕ → List ℕ
line_at letter place rule = codes "FINDING" ++ (field place.line ++ (field place.column ++ rule_field letter rule))

abbrev pub line_of : ℕ → Option Place → ℕ → List ℕ
line_of letter None rule = []
line_of letter (Some place) rule = line_at letter place rule

-- the line of a finding: the place of its spot, and the rule
abbrev pub finding_line : ℕ → List (Spot × Place) → Finding → List ℕ
finding_line letter places f = line_of letter (place_of places f.spot) f.rule

abbrev pub finding_lines : ℕ → List (Spot × Place) → List Finding → List ℕ
finding_lines letter places [] = []
finding_lines letter places (f ∷ fs) = finding_line letter places f ++ finding_lines letter places fs

abbrev pub findings_text : ℕ → List (Spot × Place) → List Finding → List ℕ
findings_text letter places [] = codes "OK\n"
findings_text letter places (f ∷ fs) = finding_lines letter places (f ∷ fs)

-- ---- places

-- the spot of each finding has a place
abbrev pub HavePlaces : List (Spot × Place) → List Finding → Type 0
HavePlaces places [] = Unit {0}
HavePlaces places (f ∷ fs) = IsSome (place_of places f.spot) × HavePlaces places fs

-- every part of the module has its place
abbrev pub ArePlaces : Module → List (Spot × Place) → Type 0
ArePlaces m places = map (λ p. p.0) places ≡ spots m

abbrev pub BaseFindingsHavePlaces : Type 0
BaseFindingsHavePlaces =
    (shape : Form) (m : Module) (e : ℕ) (places : List (Spot × Place)) (fs : List Finding)
    → ArePlaces m places → AreFindings (ViolatesBase shape m e) fs → HavePlaces places fs

abbrev pub AdaptiveFindingsHavePlaces : Type 0
AdaptiveFindingsHavePlaces =
    (m : Module) (e : ℕ) (places : List (Spot × Place)) (fs : List Finding)
    → ArePlaces m places → AreFindings (ViolatesAdaptive m e) fs → HavePlaces places fs
