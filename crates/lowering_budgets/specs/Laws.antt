-- The budget of lowering counts configurations, and nothing else depends on it.
use Rattle.std.specs.Prelude.{ℕ, ◌≤◌, length}
use Rattle.ir_module.specs.declared.tree.Module.{Module}
use Rattle.kept_items.specs.declared.target.Target.{Target}
use Rattle.sound_lowering.specs.Programs.{IsLowered}

-- these are the configurations that a lowered module is made of: no more than the budget, and within every budget of at least as many
-- the module is lowered to the same
pub record CountsConfigurations (m : Module) (t : Target) (budget : ℕ) (l : Module) (lowered : IsLowered m t budget l) : Type 0 where
  pub within : length lowered.nodes ≤ budget
  pub alike : (other : ℕ) → length lowered.nodes ≤ other → IsLowered m t other l

abbrev pub BudgetsCountConfigurations : Type 0
BudgetsCountConfigurations =
    (m : Module) (t : Target) (budget : ℕ) (l : Module) (lowered : IsLowered m t budget l) → CountsConfigurations m t budget l lowered
