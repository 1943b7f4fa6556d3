-- What a run keeps, and how one instruction changes it.
use Rattle.std.specs.Prelude.{ℕ, ◌+◌, ◌==◌, ◌-◌, not, Bool, if◌then◌else◌, Option, None, Some, List, [], ◌∷◌, ◌++◌, length, map, filter, replicate, slice_get, slice_set}
use Rattle.std.specs.List.{list_any}
use Rattle.backend_api.specs.declared.operation.Answer.{Answer}
use Rattle.backend_api.specs.declared.operation.Event.{Event}
use Rattle.backend_api.specs.declared.operation.Op.{Op}
use Rattle.backend_api.specs.declared.operation.ResultRef.{ResultRef}
use Rattle.backend_api.specs.Operations.{same_result}
use Rattle.ir_module.specs.declared.places.Point.{Point}
use Rattle.ir_module.specs.declared.tree.Function.{Function}
use Rattle.ir_module.specs.declared.tree.Operand.{Operand}
use Rattle.ir_module.specs.declared.tree.Operand.TheVariants as operand
use Rattle.ir_values.specs.declared.cause.Cause.{Cause}
use Rattle.ir_values.specs.declared.ids.LocalId.{LocalId}
use Rattle.ir_values.specs.declared.value.Value.{Value}
use Rattle.output_records.specs.declared.record.Record.{Record}

-- the values of a frame's local names, by their numbers
abbrev pub Env : Type 0
Env = List (Option Value)

-- what the frames of a run share
pub record State : Type 0 where
  pub answers : List Answer  -- those that the machine has left
  pub bits : List (ResultRef × Bool)  -- the bits of results, the newest first
  pub allocated : ℕ  -- how many qubits were allocated
  pub held : List ℕ  -- the allocations that aren't released
  pub measured : ℕ  -- how many measurements returned a result
  pub events : List Event  -- the operations that were answered, the oldest first
  pub records : List Record  -- the oldest first

-- an instruction that ends the run: it traps, or the machine has no answer to this operation
pub data Stop : Type 0 where
  Trap : Cause → Stop
  Ask : Op → Stop

-- what one instruction does in its frame
pub data Move : Type 0 where
  -- it goes on at another point of this function
  Next : Point → Env → State → Move
  -- it calls a function, whose frame begins so; the value that comes back is that of this name
  Enter : Point → Env → Option LocalId → State → Move
  -- it returns from this frame
  Back : Option Value → Move
  -- it ends the run
  Halt : Stop → State → Move
  -- it has no meaning: a value of another type, or a point that isn't there
  Stuck : Move

abbrev pub next : Point → Point
next p = record p { index = p.index + 1 }

abbrev pub bind : Env → Option LocalId → Value → Env
bind env None v = env
bind env (Some x) v = slice_set env x.0 (Some v)

-- the value of a name, where it has one
abbrev pub value_at : Option (Option Value) → Option Value
value_at None = None
value_at (Some v) = v

abbrev pub value_of : Env → Operand → Option Value
value_of env (operand.Const v) = Some v
value_of env (operand.Local x) = value_at (slice_get env x.0)

abbrev pub one_more : Option Value → Option (List Value) → Option (List Value)
one_more None vs = None
one_more (Some v) None = None
one_more (Some v) (Some vs) = Some (v ∷ vs)

-- the values of operands, where each has one
abbrev pub values_of : Env → List Operand → Option (List Value)
values_of env [] = Some []
values_of env (a ∷ rest) = one_more (value_of env a) (values_of env rest)

-- a frame begins with the values of its parameters, and no other name has a value
abbrev pub frame : Function → List Value → Env
frame f vs = map Some vs ++ replicate (length f.locals - length vs) None

abbrev pub is_held : State → ℕ → Bool
is_held st j = list_any (λ i. i == j) st.held

-- the next allocation is held
abbrev pub with_allocation : State → State
with_allocation st = record st { allocated = st.allocated + 1; held = st.held ++ st.allocated ∷ [] }

abbrev pub without : State → ℕ → State
without st j = record st { held = filter (λ i. not (i == j)) st.held }

abbrev pub bit_in : List (ResultRef × Bool) → ResultRef → Option Bool
bit_in [] r = None
bit_in (b ∷ bs) r = if same_result b.0 r then Some b.1 else bit_in bs r

-- the bit of a result, where it was measured
abbrev pub bit_of : State → ResultRef → Option Bool
bit_of st r = bit_in st.bits r

abbrev pub with_bit : State → ResultRef → Bool → State
with_bit st r b = record st { bits = (r, b) ∷ st.bits }

abbrev pub with_record : State → Record → State
with_record st r = record st { records = st.records ++ r ∷ [] }

-- the operation was answered, and these answers are left
abbrev pub with_event : State → Op → Answer → List Answer → State
with_event st op answer rest = record st { answers = rest; events = st.events ++ (record { op = op; answer = answer }) ∷ [] }
