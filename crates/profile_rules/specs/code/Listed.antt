-- The list of findings along the tree, as one pass makes it.
use Rattle.std.specs.Prelude.{ℕ, suc, ◌<◌, Some, List, [], ◌∷◌, ◌++◌, map}
use Rattle.ir_module.specs.declared.places.Spot.{Spot}
use Rattle.ir_module.specs.declared.places.Spot.TheVariants as spot
use Rattle.ir_module.specs.declared.tree.Block.{Block}
use Rattle.ir_module.specs.declared.tree.Function.{Function}
use Rattle.ir_module.specs.declared.tree.Module.{Module}
use Rattle.ir_module.specs.Spots.{point_at}
use Rattle.ir_module.specs.Steps.{Step, steps_of_block}
use Rattle.ir_module.specs.Tree.{blocks_of}
use Rattle.profile_rules.specs.declared.finding.Finding.{Finding}
use Rattle.profile_rules.specs.Findings.{Rules, broken, broken_by_function, broken_by_step}

abbrev pub findings_at : Spot → List ℕ → List Finding
findings_at s rs = map (λ r. record { spot = s; rule = r }) rs

module _ (rules : Rules) where
  -- those of some steps of block b of function g, numbered from i
  abbrev pub step_findings : ℕ → Function → ℕ → ℕ → List Step → List Finding
  step_findings g f b i [] = []
  step_findings g f b i (s ∷ ss) =
      findings_at (spot.At (point_at g b i)) (broken_by_step rules f (point_at g b i) s) ++ step_findings g f b (suc i) ss

  -- those of some blocks, numbered from b
  abbrev pub block_findings : ℕ → Function → ℕ → List Block → List Finding
  block_findings g f b [] = []
  block_findings g f b (c ∷ cs) = step_findings g f b 0 (steps_of_block c) ++ block_findings g f (suc b) cs

  -- those of function g itself, then those of its steps
  abbrev pub function_part : ℕ → Function → List Finding
  function_part g f =
      findings_at (spot.Func (record { 0 = g })) (broken_by_function rules g (Some f)) ++ block_findings g f 0 (blocks_of f)

  -- those of some functions, numbered from g
  abbrev pub function_findings : ℕ → List Function → List Finding
  function_findings g [] = []
  function_findings g (f ∷ fs) = function_part g f ++ function_findings (suc g) fs

  abbrev pub findings : Module → List Finding
  findings m = findings_at spot.Module (broken (λ b. b) rules.on_module) ++ function_findings 0 m.funcs

-- the numbers ascend from above n
abbrev pub Rise : ℕ → List ℕ → Type 0
Rise n [] = Unit {0}
Rise n (r ∷ rs) = (n < r) × Rise r rs

-- the rules of each sort stand in the order of their numbers
pub record AreNumbered (rules : Rules) : Type 0 where
  pub on_module : Rise 0 (map (λ r. r.0) rules.on_module)
  pub on_function : Rise 0 (map (λ r. r.0) rules.on_function)
  pub on_step : Rise 0 (map (λ r. r.0) rules.on_step)
