-- What a machine is in a run, and what an instruction does to it.
use Rattle.std.specs.Prelude.{◌≡◌, ◌≢◌, ℕ, ⊤, true, Bool, Option, None, Some, List, [], ◌∷◌, ◌++◌, map}
use Rattle.backend_api.specs.declared.backend.Stop.{Stop}
use Rattle.backend_api.specs.declared.backend.Stop.TheVariants as stop
use Rattle.backend_api.specs.declared.backend.Turned.{Turned}
use Rattle.backend_api.specs.declared.operation.Answer.{Answer}
use Rattle.backend_api.specs.declared.operation.Answer.TheVariants as answer
use Rattle.backend_api.specs.declared.operation.Event.{Event}
use Rattle.backend_api.specs.declared.operation.ResultRef.{ResultRef}
use Rattle.backend_api.specs.declared.operation.Op.{Op}
use Rattle.backend_api.specs.Backend.{Answered, BackendState, Keeps, Refused}
use Rattle.ir_values.specs.declared.class.Class.{Class}
use Rattle.ir_values.specs.declared.class.Class.TheVariants as class
use Rattle.machine_frames.specs.declared.flow.Flow.{Flow}
use Rattle.machine_frames.specs.declared.flow.Flow.TheVariants as flow
use Rattle.machine_frames.specs.Frames.{IsOwn, meant, whole}
use Rattle.machine_tables.specs.code.Reads.{Sets, Shows}
use Rattle.ir_module.specs.declared.tree.Module.{Module}
use Rattle.ir_module.specs.Entry.{Entry, entry_of}
use Rattle.ir_values.specs.declared.value.Value.{Value}
use Rattle.ir_values.specs.declared.value.Value.TheVariants as value
use Rattle.qir_machine.specs.declared.calls.Called.{Called}
use Rattle.qir_machine.specs.declared.calls.Called.TheVariants as called
use Rattle.qir_machine.specs.declared.machine.Machine.{Machine}
use Rattle.qir_machine.specs.Heard.{answers_of, Caused, Heard}
use Rattle.qir_meaning.specs.declared.end.Ask.{Ask}
use Rattle.qir_meaning.specs.declared.end.Ask.TheVariants as ask
use Rattle.qir_meaning.specs.declared.end.End.TheVariants as end
use Rattle.qir_meaning.specs.Effects.{first_result}
use Rattle.qir_meaning.specs.State.{State, Move}
use Rattle.qir_meaning.specs.code.Steps.{Ended as Over, Jam, Whole, Tick, On, Off, tick_of, whole_start}

-- the bit that an answered measurement writes
abbrev pub writes : Option ResultRef → Answer → List (ResultRef × Bool)
writes None a = []
writes (Some r) answer.Done = []
writes (Some r) (answer.Bit b) = (r, b) ∷ []

abbrev pub written : Event → List (ResultRef × Bool)
written e = writes (first_result e.op.args) e.answer

-- the bits of results after these events, the newest first
abbrev pub bits_after : List (ResultRef × Bool) → List Event → List (ResultRef × Bool)
bits_after bits [] = bits
bits_after bits (e ∷ es) = bits_after (written e ++ bits) es

-- the state of a run, with these answers left and these events so far
abbrev pub state : Machine → List Answer → List Event → State
state s a es = record {
  answers = a;
  bits = bits_after [] es;
  allocated = s.allocations.count;
  held = s.allocations.held;
  measured = s.measured;
  events = es;
  records = s.records;
}

abbrev pub whole_of : Machine → List Answer → List Event → Whole
whole_of s a es = whole s.frames (state s a es)

-- the table has the bits of the run so far
abbrev pub Knows : Machine → List Event → Type 0
Knows s es = Shows s.results (bits_after [] es)

-- an instruction that asks for no operation did what the move does
abbrev pub Acts : Machine → Machine → Flow → (State → Move) → Type 0
Acts s now flow.Goes move =
    (a : List Answer) (es : List Event) → Knows s es → tick_of (whole_of s a es) (move (state s a es)) ≡ On (whole_of now a es)
Acts s now (flow.Ends e) move =
    IsOwn e × ((a : List Answer) (es : List Event) → Knows s es → tick_of (whole_of s a es) (move (state s a es)) ≡ Off (Over (meant e) (state now a es)))
Acts s now flow.Lost move =
    (a : List Answer) (es : List Event) → Knows s es → tick_of (whole_of s a es) (move (state s a es)) ≡ Off Jam

-- it did what the move does where the backend answered it with these events
abbrev pub DoesMove : Machine → Machine → Flow → List Event → (State → Move) → Type 0
DoesMove s now flow.Goes new move =
    (a : List Answer) (es : List Event) → Knows s es
    → Knows now (es ++ new) × (tick_of (whole_of s (answers_of new ++ a) es) (move (state s (answers_of new ++ a) es)) ≡ On (whole_of now a (es ++ new)))
DoesMove s now (flow.Ends e) new move =
    (es : List Event) → Knows s es
    → tick_of (whole_of s (answers_of new) es) (move (state s (answers_of new) es)) ≡ Off (Over (meant e) (state now [] (es ++ new)))
DoesMove s now flow.Lost new move =
    (es : List Event) → Knows s es → tick_of (whole_of s (answers_of new) es) (move (state s (answers_of new) es)) ≡ Off Jam

abbrev pub FlowCaused : Flow → BackendState → BackendState → Type 0
FlowCaused flow.Goes old now = ⊤
FlowCaused (flow.Ends e) old now = Caused e old now
FlowCaused flow.Lost old now = ⊤

pub record Does (s now : Machine) (flow : Flow) (old after : BackendState) (move : State → Move) : Type 0 where
  pub new : List Event
  pub heard : Heard old after new
  pub caused : FlowCaused flow old after
  pub does : DoesMove s now flow new move

-- why an operation that was refused has no answer; want of memory is told otherwise
abbrev pub asked : Stop → Ask
asked stop.Unsupported = ask.Unsupported
asked stop.Empty = ask.Empty
asked stop.Failed = ask.Failed
asked stop.Memory = ask.Failed

abbrev pub EndsAsking : Turned → Flow → Type 0
EndsAsking turned fl = (turned.why ≢ stop.Memory) × (fl ≡ flow.Ends (end.Asks turned.op (asked turned.why)))

-- the class of a function that asks for no operation
abbrev pub IsRuntime : Class → Type 0
IsRuntime class.Returning = ⊥
IsRuntime class.Measure = ⊥
IsRuntime class.Gate = ⊥
IsRuntime c = ⊤

abbrev pub IsRecord : Class → Type 0
IsRecord class.Tuple = ⊤
IsRecord class.Array = ⊤
IsRecord class.ResRecord = ⊤
IsRecord class.BoolRecord = ⊤
IsRecord class.IntRecord = ⊤
IsRecord class.DoubleRecord = ⊤
IsRecord c = ⊥

-- the same but for the table of results
abbrev pub SameBut : Machine → Machine → Type 0
SameBut s now = now ≡ record s { results = now.results }

-- A measurement was asked for. It was answered, and its bit written; or it was refused, and the run is over.
abbrev pub Asked : Machine → Machine → Option Flow → Op → ResultRef → BackendState → BackendState → Type 0
Asked s now None op r old after =
    SameBut s now × (b : Bool) × Answered op (answer.Bit b) old after × Keeps old after × Sets r b s.results now.results
Asked s now (Some fl) op r old after =
    SameBut s now × (turned : Turned) × Refused op turned old after × Keeps old after × EndsAsking turned fl

-- what a call calls, by the value of its callee
abbrev pub called_by : Option Value → Called
called_by None = called.Unbound
called_by (Some (value.Func g)) = called.Func g
called_by (Some v) = called.Lost

-- the machine of a run that has not begun an instruction
pub record Begins (m : Module) (s : Machine) : Type 0 where
  pub entry : Entry
  pub is_entry : entry_of m ≡ Some entry
  pub whole : (a : List Answer) → whole_of s a [] ≡ whole_start entry a
  pub knows : Knows s []
  pub measured : s.measured ≡ 0
