-- What the machine runs.
use Rattle.std.specs.Prelude.{◌≡◌, ◌≢◌, ℕ, ◌<◌, ◌≤◌, List}
use Rattle.backend_api.specs.declared.operation.Event.{Event}
use Rattle.backend_api.specs.Backend.{BackendState}
use Rattle.ir_module.specs.declared.tree.Module.{Module}
use Rattle.ir_module.specs.Numbered.{Numbered}
use Rattle.machine_frames.specs.Frames.{meant}
use Rattle.output_records.specs.declared.record.Record.{Record}
use Rattle.qir_meaning.specs.declared.end.End.{End}
use Rattle.qir_meaning.specs.declared.end.End.TheVariants as end
use Rattle.qir_meaning.specs.Runs.{Runs, Cut}
use Rattle.qir_machine.specs.declared.run.Ended.{Ended}
use Rattle.qir_machine.specs.Heard.{answers_of, Caused, Heard}
use Rattle.type_check.specs.Faults.{Typed}

-- a module that has a meaning: its numbers are in order, and it has no fault, its handles being below some limit
pub record HasMeaning (m : Module) : Type 0 where
  pub numbered : Numbered m
  pub limit : ℕ
  pub typed : Typed m limit

-- with the answers to these events the run is cut at this bound
abbrev pub IsCutAt : Module → List Event → ℕ → Type 0
IsCutAt m new n = (es : List Event) × (rs : List Record) × Runs m (answers_of new) n es rs Cut

-- with the answers that the backend gave in this call the module has this run, and begins so many instructions
pub record Ran (m : Module) (steps : ℕ) (ended : Ended) (old now : BackendState) : Type 0 where
  pub new : List Event
  pub heard : Heard old now new
  pub caused : Caused ended.end old now
  pub runs : Runs m (answers_of new) steps new ended.records (meant ended.end)
  pub within : ended.used ≤ steps
  pub all_used : ended.end ≡ end.Cut → ended.used ≡ steps
  pub enough : ended.end ≢ end.Cut → Runs m (answers_of new) ended.used new ended.records (meant ended.end)
  pub needed : (n : ℕ) → n < ended.used → IsCutAt m new n

-- there was no memory: what the backend answered in this call are the events of a run that was cut within the steps
pub record Broken (m : Module) (steps : ℕ) (old now : BackendState) : Type 0 where
  pub new : List Event
  pub heard : Heard old now new
  pub used : ℕ
  pub within : used ≤ steps
  pub records : List Record
  pub runs : Runs m (answers_of new) used new records Cut
