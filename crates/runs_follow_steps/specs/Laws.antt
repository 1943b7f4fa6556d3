-- Laws of the static step, for every module, target and configuration.
use Rattle.std.specs.Prelude.{◌≡◌, Bool, true, Some, List, []}
use Rattle.qir_meaning.specs.code.Steps.{Whole, tick, whole_start}
use Rattle.backend_api.specs.declared.operation.Answer.{Answer}
use Rattle.ir_module.specs.declared.places.Point.{Point}
use Rattle.ir_module.specs.declared.tree.Module.{Module}
use Rattle.ir_module.specs.Entry.{Entry, entry_of}
use Rattle.ir_module.specs.Numbered.{numbers_in_range}
use Rattle.ir_values.specs.declared.ids.LocalId.{LocalId}
use Rattle.ir_values.specs.Int.{IntValue}
use Rattle.kept_items.specs.declared.target.Target.{Target}
use Rattle.static_steps.specs.declared.config.Config.{Config}
use Rattle.static_steps.specs.Steps.{static_step, start_of}
use Rattle.runs_follow_steps.specs.Describes.{Describes, TellsLive}
use Rattle.runs_follow_steps.specs.Meets.{TurnMeets}

-- the start of constant evaluation describes the start of a run, whatever the answers
abbrev pub StartsDescribeRuns : Type 0
StartsDescribeRuns =
    (m : Module) (live : Point → LocalId → Bool) (e : Entry) (answers : List Answer)
    → entry_of m ≡ Some e
    → Describes m live [] (start_of (record { 0 = e.number })) (whole_start e answers)

-- where a configuration describes the state of a run, the next tick of the run is what the static step says
abbrev pub RunsFollowSteps : Type 0
RunsFollowSteps =
    (m : Module) (t : Target) (live : Point → LocalId → Bool) (g : Config) (ds : List IntValue) (v : Whole)
    → numbers_in_range m ≡ true
    → TellsLive m live
    → Describes m live ds g v
    → TurnMeets m live (tick m v) ds v.state (static_step m t live g)
