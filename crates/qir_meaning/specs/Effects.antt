-- What the declared functions do (QIR specification, 'Runtime Functions' and 'Quantum Instruction Set').
use Rattle.std.specs.Prelude.{ℕ, ◌+◌, ◌==◌, not, Bool, true, false, if◌then◌else◌, Option, None, Some, List, [], ◌∷◌, ◌++◌, codes}
use Rattle.backend_api.specs.declared.operation.Answer.{Answer}
use Rattle.backend_api.specs.declared.operation.Answer.TheVariants as answer
use Rattle.backend_api.specs.declared.operation.Arg.{Arg}
use Rattle.backend_api.specs.declared.operation.Arg.TheVariants as arg
use Rattle.backend_api.specs.declared.operation.Op.{Op}
use Rattle.backend_api.specs.declared.operation.QubitRef.TheVariants as qubit
use Rattle.backend_api.specs.declared.operation.ResultRef.{ResultRef}
use Rattle.backend_api.specs.declared.operation.ResultRef.TheVariants as result
use Rattle.ir_module.specs.declared.places.Point.{Point}
use Rattle.ir_values.specs.declared.int.Width.TheVariants.{W1}
use Rattle.ir_values.specs.declared.ty.Ty.{Ty}
use Rattle.ir_values.specs.declared.ty.Ty.TheVariants as ty
use Rattle.ir_values.specs.declared.cause.Cause.TheVariants as cause
use Rattle.ir_values.specs.declared.class.Class.{Class}
use Rattle.ir_values.specs.declared.class.Class.TheVariants as class
use Rattle.ir_values.specs.declared.ids.GlobalId.{GlobalId}
use Rattle.ir_values.specs.declared.ids.LocalId.{LocalId}
use Rattle.ir_values.specs.declared.value.Value.{Value}
use Rattle.ir_values.specs.declared.value.Value.TheVariants as value
use Rattle.ir_values.specs.Calls.{qis}
use Rattle.ir_values.specs.Int.{IntValue, signed}
use Rattle.output_records.specs.declared.record.Shown.{Shown}
use Rattle.output_records.specs.declared.record.Shown.TheVariants as shown
use Rattle.qir_meaning.specs.State.{Env, State, Trap, Ask, Move, Next, Halt, Stuck, next, bind, is_held, with_allocation, without, with_event, with_bit, with_record, bit_of}

abbrev pub same_bit : Bool → Bool → Bool
same_bit true b = b
same_bit false b = not b

-- a bit as an integer of type i1
abbrev pub bit_value : Bool → Value
bit_value b = value.Int (record { width = W1; bits = if b then 1 else 0 })

abbrev pub is_one : IntValue → Bool
is_one i = i.bits == 1

abbrev pub operation : List ℕ → List Arg → Op
operation name args = record { name = name; args = args }

abbrev pub first_result : List Arg → Option ResultRef
first_result [] = None
first_result (arg.Res r ∷ args) = Some r
first_result (arg.Qubit q ∷ args) = first_result args
first_result (arg.Double t ∷ args) = first_result args
first_result (arg.Int i ∷ args) = first_result args

-- arguments are looked at from left to right: a qubit that was allocated must be held, and no measurement writes into a constant
-- result
abbrev pub argument : State → Ty → Value → (Arg → Move) → Move
argument st ty.Qubit (value.Id i) go = go (arg.Qubit (qubit.Id i))
argument st ty.Qubit (value.Alloc j) go = if is_held st j then go (arg.Qubit (qubit.Alloc j)) else Halt (Trap cause.Released) st
argument st ty.Res (value.Id i) go = go (arg.Res (result.Id i))
argument st ty.Res (value.Measured i) go = go (arg.Res (result.Measured i))
argument st ty.Res value.One go = Halt (Trap cause.ConstResult) st
argument st ty.Res value.Zero go = Halt (Trap cause.ConstResult) st
argument st ty.Double (value.Double t) go = go (arg.Double t)
argument st (ty.Int w) (value.Int i) go = go (arg.Int i)
argument st t v go = Stuck

abbrev pub arguments : State → List Ty → List Value → (List Arg → Move) → Move
arguments st [] [] go = go []
arguments st (t ∷ ts) (v ∷ vs) go = argument st t v (λ a. arguments st ts vs (λ args. go (a ∷ args)))
arguments st [] (v ∷ vs) go = Stuck
arguments st (t ∷ ts) [] go = Stuck

-- a result that is read must have a bit; one and zero have theirs from the start
abbrev pub known_bit : State → Option Bool → (Bool → Move) → Move
known_bit st None go = Halt (Trap cause.ReadUnset) st
known_bit st (Some b) go = go b

abbrev pub reading : State → Value → (Bool → Move) → Move
reading st value.One go = go true
reading st value.Zero go = go false
reading st (value.Id i) go = known_bit st (bit_of st (result.Id i)) go
reading st (value.Measured i) go = known_bit st (bit_of st (result.Measured i)) go
reading st v go = Stuck

abbrev pub label_of : Value → (Option GlobalId → Move) → Move
label_of (value.Label g) go = go (Some g)
label_of value.NoLabel go = go None
label_of v go = Stuck

-- A declared call stands at the point p of a frame, and its value is that of the name x. These are what it may do.
module _ (p : Point) (env : Env) (x : Option LocalId) (st : State) where
  abbrev pub goes_on : State → Move
  goes_on st' = Next (next p) env st'

  abbrev pub gives : Value → State → Move
  gives v st' = Next (next p) (bind env x v) st'

  -- only an allocation can be released, and only while it is held
  abbrev pub releases : Value → Move
  releases (value.Id i) = Halt (Trap cause.BadRelease) st
  releases (value.Alloc j) = if is_held st j then goes_on (without st j) else Halt (Trap cause.Released) st
  releases v = Stuck

  -- a gate takes the answer that it is done; the run ends where the machine has none
  abbrev pub gate : Op → List Answer → Move
  gate op [] = Halt (Ask op) st
  gate op (answer.Done ∷ rest) = goes_on (with_event st op answer.Done rest)
  gate op (answer.Bit b ∷ rest) = Halt (Ask op) st

  -- a measurement takes a bit as its answer, which becomes that of its result
  abbrev pub measure : Op → ResultRef → List Answer → (State → Move) → Move
  measure op r [] go = Halt (Ask op) st
  measure op r (answer.Done ∷ rest) go = Halt (Ask op) st
  measure op r (answer.Bit b ∷ rest) go = go (with_bit (with_event st op (answer.Bit b) rest) r b)

  abbrev pub measure_into : List ℕ → List Arg → Option ResultRef → Move
  measure_into name args None = Stuck
  measure_into name args (Some r) = measure (operation name args) r st.answers goes_on

  -- it is issued as `mz` into the next returned result, whose number is used up only where there is an answer
  abbrev pub measure_returning : List Arg → Move
  measure_returning args =
      let r = result.Measured st.measured in
      measure (operation (qis (codes "mz__body")) (args ++ arg.Res r ∷ [])) r st.answers
      (λ st'. gives (value.Measured st.measured) (record st' { measured = st.measured + 1 }))

  abbrev pub recorded : Value → Shown → Move
  recorded label what = label_of label (λ l. goes_on (with_record st (record { shown = what; label = l })))

  -- the call of a declared function of this name and class, by the types of its arguments and their values
  abbrev pub declared_call : List ℕ → List Ty → Class → List Value → Move
  declared_call name ts class.Init vs = goes_on st
  declared_call name ts class.Alloc vs = gives (value.Alloc st.allocated) (with_allocation st)
  declared_call name ts class.Release (v ∷ []) = releases v
  declared_call name ts class.One vs = gives value.One st
  declared_call name ts class.Zero vs = gives value.Zero st
  declared_call name ts class.Equal (v ∷ w ∷ []) = reading st v (λ a. reading st w (λ b. gives (bit_value (same_bit a b)) st))
  declared_call name ts class.Count vs = goes_on st
  declared_call name ts class.Read (v ∷ []) = reading st v (λ b. gives (bit_value b) st)
  declared_call name ts class.Tuple (value.Int i ∷ l ∷ []) = recorded l (shown.Tuple (signed i))
  declared_call name ts class.Array (value.Int i ∷ l ∷ []) = recorded l (shown.Array (signed i))
  declared_call name ts class.ResRecord (v ∷ l ∷ []) = reading st v (λ b. recorded l (shown.Res b))
  declared_call name ts class.BoolRecord (value.Int i ∷ l ∷ []) = recorded l (shown.Bool (is_one i))
  declared_call name ts class.IntRecord (value.Int i ∷ l ∷ []) = recorded l (shown.Int (signed i))
  declared_call name ts class.DoubleRecord (value.Double t ∷ l ∷ []) = recorded l (shown.Double t)
  declared_call name ts class.Returning vs = arguments st ts vs measure_returning
  declared_call name ts class.Measure vs = arguments st ts vs (λ args. measure_into name args (first_result args))
  declared_call name ts class.Gate vs = arguments st ts vs (λ args. gate (operation name args) st.answers)
  declared_call name ts c vs = Stuck
