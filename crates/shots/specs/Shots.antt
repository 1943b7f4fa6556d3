-- What a shot is: a run of a module whose operations are answered by given bits, or by classical bits in the place of qubits.
use Rattle.std.specs.Prelude.{◌≡◌, ℕ, Bool, true, false, List, ◌++◌, map}
use Rattle.backend_api.specs.declared.operation.Answer.{Answer}
use Rattle.backend_api.specs.declared.operation.Event.{Event}
use Rattle.backend_api.specs.declared.operation.Op.{Op}
use Rattle.backend_api.specs.Operations.{IsMeasurement, bits_in}
use Rattle.bit_backend.specs.Actions.{can}
use Rattle.bit_backend.specs.Bits.{fits}
use Rattle.ir_module.specs.declared.tree.Module.{Module}
use Rattle.output_lines.specs.declared.last.Last.{Last}
use Rattle.output_lines.specs.declared.last.Last.TheVariants.{Code, Stop}
use Rattle.output_lines.specs.declared.last.StopName.{StopName}
use Rattle.output_lines.specs.declared.last.StopName.TheVariants as stop
use Rattle.output_records.specs.declared.record.Record.{Record}
use Rattle.qir_meaning.specs.Runs.{RunEnd, Returned, Trapped, Asks, Cut, Runs}
use Rattle.shots.specs.declared.backend.Backend.{Backend}
use Rattle.shots.specs.declared.backend.Backend.TheVariants.{Script, Bits}

-- a backend answers these operations so: a script with the first of its bits, in order, and classical bits with those of the qubits
abbrev pub Gives : Backend → List Event → Type 0
Gives (Script bits) es = (left : List Bool) × (bits ≡ bits_in es ++ left)
Gives Bits es = fits es ≡ true

-- after these events it has no answer to the operation, for this cause
abbrev pub Lacks : Backend → List Event → Op → StopName → Type 0
Lacks (Script bits) es op why = IsMeasurement op × (bits_in es ≡ bits) × (why ≡ stop.Empty)
Lacks Bits es op why = (can op ≡ false) × (why ≡ stop.Unsupported)

-- what the last line of a shot tells of the end of its run
abbrev pub TellsEnd : Backend → List Event → RunEnd → Last → Type 0
TellsEnd b es (Returned code) last = last ≡ Code code
TellsEnd b es (Trapped why) last = last ≡ Stop (stop.Trap why)
TellsEnd b es (Asks op) last = (why : StopName) × Lacks b es op why × (last ≡ Stop why)
TellsEnd b es Cut last = last ≡ Stop stop.Cut

abbrev pub answers_of : List Event → List Answer
answers_of es = map (λ e. e.answer) es

-- what a shot did: its events, its records, and how it ended
pub record Shot : Type 0 where
  pub events : List Event
  pub records : List Record
  pub last : Last

-- it is the run of the module with the answers of this backend and at most n steps
pub record IsShot (b : Backend) (m : Module) (n : ℕ) (shot : Shot) : Type 0 where
  pub given : Gives b shot.events
  pub end : RunEnd
  pub runs : Runs m (answers_of shot.events) n shot.events shot.records end
  pub told : TellsEnd b shot.events end shot.last
