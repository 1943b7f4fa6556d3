-- The runs of a module.
use Rattle.std.specs.Prelude.{◌≡◌, ℕ, zero, suc, ℤ, pos, Option, None, Some, List, []}
use Rattle.backend_api.specs.declared.operation.Answer.{Answer}
use Rattle.backend_api.specs.declared.operation.Event.{Event}
use Rattle.backend_api.specs.declared.operation.Op.{Op}
use Rattle.ir_module.specs.declared.places.Point.{Point}
use Rattle.ir_module.specs.declared.tree.Module.{Module}
use Rattle.ir_values.specs.declared.cause.Cause.{Cause}
use Rattle.ir_values.specs.declared.ids.LocalId.{LocalId}
use Rattle.ir_values.specs.declared.value.Value.{Value}
use Rattle.ir_values.specs.declared.value.Value.TheVariants as value
use Rattle.ir_values.specs.Int.{signed}
use Rattle.output_records.specs.declared.record.Record.{Record}
use Rattle.ir_module.specs.Entry.{Entry, entry_of}
use Rattle.qir_meaning.specs.Moves.{move, first_point}
use Rattle.qir_meaning.specs.State.{Env, State, Stop, Trap, Ask, Next, Enter, Back, Halt, next, bind, frame}

-- how a run ends: the entry returned a code, an instruction trapped, the machine had no answer to an operation, or the steps ended
pub data RunEnd : Type 0 where
  Returned : ℤ → RunEnd
  Trapped : Cause → RunEnd
  Asks : Op → RunEnd
  Cut : RunEnd

abbrev pub end_of : Stop → RunEnd
end_of (Trap c) = Trapped c
end_of (Ask op) = Asks op

-- how a body ends: it gives its caller a value or none, with so many steps left, or the run is over
pub data Result : Type 0 where
  Gave : Option Value → ℕ → State → Result
  Over : RunEnd → State → Result

-- a call's value is that of its name, if it has one
abbrev pub bind_result : Env → Option LocalId → Option Value → Env
bind_result env x None = env
bind_result env x (Some v) = bind env x v

-- From a point of a function, with these values, so many steps left and this state, to the return of the function. Before each
-- instruction one step is used, and with none left the run is cut.
pub data Body (m : Module) : Point → Env → ℕ → State → Result → Type 0 where
  cut : {p : Point} {env : Env} {st : State}
      → Body m p env zero st (Over Cut st)
  halts : {p : Point} {env : Env} {n : ℕ} {st : State} {stop : Stop} {st' : State}
      → move m p env st ≡ Halt stop st'
      → Body m p env (suc n) st (Over (end_of stop) st')
  back : {p : Point} {env : Env} {n : ℕ} {st : State} {v : Option Value}
      → move m p env st ≡ Back v
      → Body m p env (suc n) st (Gave v n st)
  next_point : {p : Point} {env : Env} {n : ℕ} {st : State} {p' : Point} {env' : Env} {st' : State} {r : Result}
      → move m p env st ≡ Next p' env' st'
      → Body m p' env' n st' r
      → Body m p env (suc n) st r
  -- a call is the whole run of the called body, from its own first values and this state
  calls : {p : Point} {env : Env} {n : ℕ} {st : State} {q : Point} {env' : Env} {x : Option LocalId} {st' : State}
      {v : Option Value} {n' : ℕ} {st'' : State} {r : Result}
      → move m p env st ≡ Enter q env' x st'
      → Body m q env' n st' (Gave v n' st'')
      → Body m (next p) (bind_result env x v) n' st'' r
      → Body m p env (suc n) st r
  ends_in : {p : Point} {env : Env} {n : ℕ} {st : State} {q : Point} {env' : Env} {x : Option LocalId} {st' : State}
      {e : RunEnd} {st'' : State}
      → move m p env st ≡ Enter q env' x st'
      → Body m q env' n st' (Over e st'')
      → Body m p env (suc n) st (Over e st'')

-- `ret void` of the entry is the code 0
abbrev pub Returns : Option Value → RunEnd → Type 0
Returns None e = e ≡ Returned (pos 0)
Returns (Some (value.Int i)) e = e ≡ Returned (signed i)
Returns (Some v) e = ⊥

-- the end of the entry's body is the end of the run
abbrev pub Ends : Result → RunEnd → List Event → List Record → Type 0
Ends (Gave v n st) e es rs = Returns v e × (st.events ≡ es) × (st.records ≡ rs)
Ends (Over e' st) e es rs = (e ≡ e') × (st.events ≡ es) × (st.records ≡ rs)

abbrev pub start : List Answer → State
start answers = record { answers = answers; bits = []; allocated = 0; held = []; measured = 0; events = []; records = [] }

-- with this list of answers and at most n steps, the entry issues the events es, writes the records rs and ends with e
pub record Runs (m : Module) (answers : List Answer) (n : ℕ) (es : List Event) (rs : List Record) (e : RunEnd) : Type 0 where
  pub entry : Entry
  pub is_entry : entry_of m ≡ Some entry
  pub result : Result
  pub body : Body m (first_point (record { 0 = entry.number })) (frame entry.function []) n (start answers) result
  pub ends : Ends result e es rs

-- the module has a run with these answers and this bound
abbrev pub HasRun : Module → List Answer → ℕ → Type 0
HasRun m answers n = (es : List Event) × (rs : List Record) × (e : RunEnd) × Runs m answers n es rs e

-- it has a run for every list of answers and every bound: no instruction is without a meaning
abbrev pub AlwaysRuns : Module → Type 0
AlwaysRuns m = (answers : List Answer) (n : ℕ) → HasRun m answers n
