-- Laws of what static steps issue.
use Rattle.std.specs.Prelude.{ℕ, Bool}
use Rattle.ir_module.specs.declared.places.Point.{Point}
use Rattle.ir_module.specs.declared.tree.Module.{Module}
use Rattle.ir_module.specs.Numbered.{Numbered}
use Rattle.ir_values.specs.declared.ids.FuncId.{FuncId}
use Rattle.ir_values.specs.declared.ids.LocalId.{LocalId}
use Rattle.type_check.specs.Faults.{Typed}
use Rattle.type_check.specs.Required.{required_qubits, required_results}
use Rattle.kept_items.specs.declared.target.Target.{Target}
use Rattle.static_steps.specs.declared.config.Config.{Config}
use Rattle.static_steps.specs.Configurations.{IsConfiguration}
use Rattle.static_steps.specs.Steps.{static_step}
use Rattle.issued_steps.specs.Issues.{IsInOrder}

-- the static step of a configuration of a module without faults issues what calls of its declared functions issue, in order
unfoldable pub StepsIssueCalls : Type 0
StepsIssueCalls =
    (m : Module) (limit : ℕ) (t : Target) (live : Point → LocalId → Bool) (entry : FuncId) (g : Config)
    → Numbered m
    → Typed m limit
    → IsConfiguration m t live entry (required_qubits m limit) (required_results m limit) g
    → IsInOrder m t g.phase (static_step m t live g)
