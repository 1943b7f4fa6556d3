-- Laws of configurations of modules without faults.
use Rattle.std.specs.Prelude.{◌≡◌, ℕ, Bool, Some}
use Rattle.ir_module.specs.declared.places.Point.{Point}
use Rattle.ir_module.specs.declared.tree.Module.{Module}
use Rattle.ir_module.specs.Entry.{Entry, entry_of}
use Rattle.ir_module.specs.Numbered.{Numbered}
use Rattle.ir_values.specs.declared.ids.FuncId.{FuncId}
use Rattle.ir_values.specs.declared.ids.LocalId.{LocalId}
use Rattle.type_check.specs.Faults.{Typed}
use Rattle.type_check.specs.Required.{required_qubits, required_results}
use Rattle.kept_items.specs.declared.target.Target.{Target}
use Rattle.static_steps.specs.declared.config.Config.{Config}
use Rattle.static_steps.specs.Configurations.{IsConfiguration}
use Rattle.static_steps.specs.Steps.{start_of, static_step}
use Rattle.valid_steps.specs.Turns.{IsTurn}
use Rattle.valid_steps.specs.Types.{dynamic_types}

abbrev pub entry_id : Entry → FuncId
entry_id e = record { 0 = e.number }

-- the start is a configuration of a module without faults
unfoldable pub AdmittedModulesStart : Type 0
AdmittedModulesStart =
    (m : Module) (limit : ℕ) (t : Target) (live : Point → LocalId → Bool) (e : Entry)
    → Numbered m
    → Typed m limit
    → entry_of m ≡ Some e
    → IsConfiguration m t live (entry_id e) (required_qubits m limit) (required_results m limit) (start_of (entry_id e))

-- the static step of a configuration of a module without faults is never Lost, leads to configurations of the module again, and
-- gives items, choices and codes of their types, which the target permits
unfoldable pub StepsKeepConfigurations : Type 0
StepsKeepConfigurations =
    (m : Module) (limit : ℕ) (t : Target) (live : Point → LocalId → Bool) (e : Entry) (g : Config)
    → Numbered m
    → Typed m limit
    → entry_of m ≡ Some e
    → IsConfiguration m t live (entry_id e) (required_qubits m limit) (required_results m limit) g
    → IsTurn m t live (entry_id e) (required_qubits m limit) (required_results m limit) (dynamic_types m g) g.allocated g.returned
    (static_step m t live g)
