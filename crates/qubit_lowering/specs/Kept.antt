-- What `lower` answers.
use Rattle.std.specs.Prelude.{◌≡◌, ℕ, length}
use Rattle.ir_module.specs.declared.tree.Module.{Module}
use Rattle.kept_items.specs.declared.target.Target.{Target}
use Rattle.sound_lowering.specs.Programs.{IsLowered}
use Rattle.sound_lowering.specs.Sound.{IsSound}

-- l is the lowered module of m for the target within the budget, and keeps what m does
pub record IsKept (m : Module) (t : Target) (budget : ℕ) (l : Module) : Type 0 where
  pub lowered : IsLowered m t budget l
  pub sound : IsSound m t budget lowered.nodes l

-- and it is made of so many configurations
pub record IsCounted (m : Module) (t : Target) (budget : ℕ) (l : Module) (count : ℕ) : Type 0 where
  pub kept : IsKept m t budget l
  pub number : count ≡ length kept.lowered.nodes
