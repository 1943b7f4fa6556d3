-- Rules by their numbers, where a module breaks them, and what a list of findings holds.
use Rattle.std.specs.Prelude.{◌≡◌, ◌⊎◌, ◌↔◌, ℕ, ◌<◌, Bool, if◌then◌else◌, List, [], ◌∷◌, Option, None, Some, slice_get, Contains}
use Rattle.ir_module.specs.declared.places.Point.{Point}
use Rattle.ir_module.specs.declared.places.Spot.{Spot}
use Rattle.ir_module.specs.declared.places.Spot.TheVariants as spot
use Rattle.ir_module.specs.declared.tree.Function.{Function}
use Rattle.ir_module.specs.declared.tree.Module.{Module}
use Rattle.ir_module.specs.Places.{IsBefore}
use Rattle.ir_module.specs.Steps.{Step, PhiAt, InstAt, TermAt, NoStep, step_of_point}
use Rattle.profile_rules.specs.declared.finding.Finding.{Finding}

-- ---- rules

-- rules with their numbers, in ascending order: those on the module as a whole, on functions by their numbers, and on
-- the steps of functions with a body. Each is a test that is true where the rule is broken.
pub record Rules : Type 0 where
  pub on_module : List (ℕ × Bool)
  pub on_function : List (ℕ × (ℕ → Function → Bool))
  pub on_step : List (ℕ × (Function → Point → Step → Bool))

-- the numbers of the rules whose test is true
abbrev pub broken : {A : Type 0} → (A → Bool) → List (ℕ × A) → List ℕ
broken is [] = []
broken is (r ∷ rs) = if is r.1 then r.0 ∷ broken is rs else broken is rs

abbrev pub broken_by_function : Rules → ℕ → Option Function → List ℕ
broken_by_function rules g None = []
broken_by_function rules g (Some f) = broken (λ t. t g f) rules.on_function

-- where no step stands no rule is broken
abbrev pub broken_by_step : Rules → Function → Point → Step → List ℕ
broken_by_step rules f p NoStep = []
broken_by_step rules f p (PhiAt phi) = broken (λ t. t f p (PhiAt phi)) rules.on_step
broken_by_step rules f p (InstAt i) = broken (λ t. t f p (InstAt i)) rules.on_step
broken_by_step rules f p (TermAt t) = broken (λ u. u f p (TermAt t)) rules.on_step

abbrev pub broken_at_point : Rules → Option Function → Point → List ℕ
broken_at_point rules None p = []
broken_at_point rules (Some f) p = broken_by_step rules f p (step_of_point f p)

-- the numbers of the rules that a module breaks at a spot
abbrev pub broken_at : Rules → Module → Spot → List ℕ
broken_at rules m spot.Module = broken (λ b. b) rules.on_module
broken_at rules m (spot.Func g) = broken_by_function rules g.0 (slice_get m.funcs g.0)
broken_at rules m (spot.At p) = broken_at_point rules (slice_get m.funcs p.func.0) p

-- the module breaks the rule of this number at the spot
abbrev pub Breaks : Rules → Module → Spot → ℕ → Type 0
Breaks rules m s r = Contains (broken_at rules m s) r

-- ---- findings

-- a finding comes before another by its spot, then by its rule
abbrev pub Precedes : Finding → Finding → Type 0
Precedes a b = IsBefore a.spot b.spot ⊎ ((a.spot ≡ b.spot) × (a.rule < b.rule))

abbrev pub AscendFrom : Finding → List Finding → Type 0
AscendFrom a [] = Unit {0}
AscendFrom a (b ∷ bs) = Precedes a b × AscendFrom b bs

-- each comes before the next, so that none stands twice
abbrev pub Ascend : List Finding → Type 0
Ascend [] = Unit {0}
Ascend (a ∷ bs) = AscendFrom a bs

-- exactly the violations, in order of spot and then rule, each once
pub record AreFindings (Violates : Spot → ℕ → Type 0) (fs : List Finding) : Type 0 where
  pub ordered : Ascend fs
  pub exact : (s : Spot) (r : ℕ) → Contains fs (record { spot = s; rule = r }) ↔ Violates s r
