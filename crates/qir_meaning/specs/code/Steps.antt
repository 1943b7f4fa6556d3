-- Runs by steps of a stack of frames, the form that proofs and the machine go by.
use Rattle.std.specs.Prelude.{◌≡◌, ℕ, zero, suc, pos, Option, None, Some, List, [], ◌∷◌}
use Rattle.backend_api.specs.declared.operation.Answer.{Answer}
use Rattle.backend_api.specs.declared.operation.Event.{Event}
use Rattle.ir_module.specs.declared.places.Point.{Point}
use Rattle.ir_module.specs.declared.tree.Module.{Module}
use Rattle.ir_values.specs.declared.ids.LocalId.{LocalId}
use Rattle.ir_values.specs.declared.value.Value.{Value}
use Rattle.ir_values.specs.declared.value.Value.TheVariants as value
use Rattle.ir_values.specs.Int.{signed}
use Rattle.output_records.specs.declared.record.Record.{Record}
use Rattle.ir_module.specs.Entry.{Entry, entry_of}
use Rattle.qir_meaning.specs.Moves.{move, first_point}
use Rattle.qir_meaning.specs.Runs.{RunEnd, Returned, Cut, end_of, bind_result, start}
use Rattle.qir_meaning.specs.State.{Env, State, Move, Next, Enter, Back, Halt, Stuck, next, frame}

-- a frame that waits for a call: where it goes on, its values, and the name that takes the call's value
pub record Waiting : Type 0 where
  pub at : Point
  pub env : Env
  pub result : Option LocalId

pub data Outcome : Type 0 where
  Ended : RunEnd → State → Outcome
  Jam : Outcome

abbrev pub returned : Option Value → State → Outcome
returned None st = Ended (Returned (pos 0)) st
returned (Some (value.Int i)) st = Ended (Returned (signed i)) st
returned (Some v) st = Jam

-- all that a run has between two instructions
pub record Whole : Type 0 where
  pub at : Point
  pub env : Env
  pub waits : List Waiting
  pub state : State

-- one instruction leads on to another whole state, or the run is over
pub data Tick : Type 0 where
  On : Whole → Tick
  Off : Outcome → Tick

abbrev pub gives_back : List Waiting → Option Value → State → Tick
gives_back [] v st = Off (returned v st)
gives_back (u ∷ us) v st = On (record { at = u.at; env = bind_result u.env u.result v; waits = us; state = st })

abbrev pub tick_of : Whole → Move → Tick
tick_of w (Next p env st) = On (record { at = p; env = env; waits = w.waits; state = st })
tick_of w (Enter q env x st) =
    On (record { at = q; env = env; waits = (record { at = next w.at; env = w.env; result = x }) ∷ w.waits; state = st })
tick_of w (Back v) = gives_back w.waits v w.state
tick_of w (Halt stop st) = Off (Ended (end_of stop) st)
tick_of w Stuck = Off Jam

unfoldable pub tick : Module → Whole → Tick
tick m w = tick_of w (move m w.at w.env w.state)

-- what is left to do after an instruction
abbrev pub goes : (Whole → Outcome) → Tick → Outcome
goes go (On w) = go w
goes go (Off o) = o

-- at most n instructions from here on
unfoldable pub run : Module → ℕ → Whole → Outcome
run m zero w = Ended Cut w.state
run m (suc n) w = goes (run m n) (tick m w)

abbrev pub whole_start : Entry → List Answer → Whole
whole_start e answers = record { at = first_point (record { 0 = e.number }); env = frame e.function []; waits = []; state = start answers }

abbrev run_from : Module → ℕ → List Answer → Option Entry → Outcome
run_from m n answers None = Jam
run_from m n answers (Some e) = run m n (whole_start e answers)

-- the whole run of a module by steps
abbrev pub run_by_steps : Module → List Answer → ℕ → Outcome
run_by_steps m answers n = run_from m n answers (entry_of m)

abbrev pub Finished : Outcome → RunEnd → List Event → List Record → Type 0
Finished (Ended e' st) e es rs = (e ≡ e') × (st.events ≡ es) × (st.records ≡ rs)
Finished Jam e es rs = ⊥
