-- What `run` writes of a module and of its lowered module.
use Rattle.std.specs.Prelude.{ℕ}
use Rattle.equal_lines.specs.Lines.{EqualRuns}
use Rattle.ir_module.specs.declared.tree.Module.{Module}
use Rattle.ir_module.specs.Numbered.{Numbered}
use Rattle.kept_items.specs.declared.target.Target.{Target}
use Rattle.sound_lowering.specs.Programs.{IsLowered, source_limit}
use Rattle.sound_lowering.specs.Sound.{IsSound}
use Rattle.type_check.specs.Faults.{Typed}

unfoldable pub LoweredRunsAreEqual : Type 0
LoweredRunsAreEqual =
    (m : Module) (t : Target) (budget : ℕ) (l : Module)
    → Numbered m
    → Typed m source_limit
    → (lowered : IsLowered m t budget l)
    → IsSound m t budget lowered.nodes l
    → EqualRuns m l budget
