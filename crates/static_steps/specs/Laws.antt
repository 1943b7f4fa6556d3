-- Laws of configurations.
use Rattle.std.specs.Prelude.{◌≡◌, ℕ, ⊤, Bool, Some, slice_get}
use Rattle.ir_module.specs.declared.places.Point.{Point}
use Rattle.ir_module.specs.declared.tree.Function.{Function}
use Rattle.ir_module.specs.declared.tree.Module.{Module}
use Rattle.ir_module.specs.Steps.{step_in_module}
use Rattle.ir_values.specs.declared.ids.FuncId.{FuncId}
use Rattle.ir_values.specs.declared.ids.LocalId.{LocalId}
use Rattle.qir_meaning.specs.Moves.{first_point}
use Rattle.kept_items.specs.declared.target.Kind.{Kind}
use Rattle.kept_items.specs.declared.target.Kind.TheVariants as kind
use Rattle.kept_items.specs.declared.target.Target.{Target}
use Rattle.static_steps.specs.declared.config.Config.{Config}
use Rattle.static_steps.specs.declared.turn.Turn.{Turn}
use Rattle.static_steps.specs.declared.turn.Turn.TheVariants.{Bad}
use Rattle.static_steps.specs.Configurations.{IsConfiguration, Stands}
use Rattle.static_steps.specs.Steps.{start_of, static_step}

-- where an instruction or a terminator stands first in the entry, the start is a configuration of the module
abbrev pub StartsAreConfigurations : Type 0
StartsAreConfigurations =
    (m : Module) (t : Target) (live : Point → LocalId → Bool) (entry : FuncId) (f : Function) (qubits results : ℕ)
    → slice_get m.funcs entry.0 ≡ Some f
    → Stands (step_in_module m (first_point entry))
    → IsConfiguration m t live entry qubits results (start_of entry)

-- that the program comes back to where it was, and that the budget ends, is for the walk over configurations to say
abbrev pub IsStepKind : Kind → Type 0
IsStepKind kind.Loop = ⊥
IsStepKind kind.Budget = ⊥
IsStepKind other = ⊤

abbrev pub IsStepTurn : Turn → Type 0
IsStepTurn (Bad k) = IsStepKind k
IsStepTurn other = ⊤

-- no step is refused so
abbrev pub StepsLeaveLoopsAndBudget : Type 0
StepsLeaveLoopsAndBudget =
    (m : Module) (t : Target) (live : Point → LocalId → Bool) (g : Config) → IsStepTurn (static_step m t live g)
