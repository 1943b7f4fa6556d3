-- Constant evaluation of a module that can be printed.
use Rattle.std.specs.Prelude.{◌≡◌, Bool, true}
use Rattle.ir_module.specs.declared.places.Point.{Point}
use Rattle.ir_module.specs.declared.tree.Module.{Module}
use Rattle.ir_module.specs.Printable.{IsPrintable}
use Rattle.ir_values.specs.declared.ids.LocalId.{LocalId}
use Rattle.kept_items.specs.declared.target.Target.{Target}
use Rattle.static_steps.specs.declared.config.Config.{Config}
use Rattle.static_steps.specs.Steps.{static_step}
use Rattle.printable_steps.specs.Turns.{config_prints, turn_prints}

-- a step from known values that can be printed leads to ones that can, and so are its item and its cases
abbrev pub StepsKeepPrintable : Type 0
StepsKeepPrintable =
    (m : Module) (t : Target) (live : Point → LocalId → Bool) (g : Config)
    → IsPrintable m
    → config_prints g ≡ true
    → turn_prints (static_step m t live g) ≡ true
