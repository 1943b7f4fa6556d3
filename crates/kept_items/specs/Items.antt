-- What an item does, by the values of the Dynamic names: the same where it stands in the source and where it is printed.
use Rattle.std.specs.Prelude.{ℕ, ℤ, suc, ◌==◌, Bool, true, false, if◌then◌else◌, Option, None, Some, List, [], ◌∷◌, Result, Ok, Err, map, slice_index_or}
use Rattle.backend_api.specs.declared.operation.Answer.{Answer}
use Rattle.backend_api.specs.declared.operation.Answer.TheVariants as answer
use Rattle.backend_api.specs.declared.operation.Arg.{Arg}
use Rattle.backend_api.specs.declared.operation.Arg.TheVariants as arg
use Rattle.backend_api.specs.declared.operation.Op.{Op}
use Rattle.backend_api.specs.declared.operation.QubitRef.TheVariants as qubit
use Rattle.backend_api.specs.declared.operation.ResultRef.{ResultRef}
use Rattle.backend_api.specs.declared.operation.ResultRef.TheVariants as result
use Rattle.ir_values.specs.declared.cause.Cause.{Cause}
use Rattle.ir_values.specs.declared.cause.Cause.TheVariants as cause
use Rattle.ir_values.specs.declared.class.Class.{Class}
use Rattle.ir_values.specs.declared.class.Class.TheVariants as class
use Rattle.ir_values.specs.declared.int.BinOp.{BinOp}
use Rattle.ir_values.specs.declared.int.Conv.{Conv}
use Rattle.ir_values.specs.declared.int.Flags.{Flags}
use Rattle.ir_values.specs.declared.int.Pred.{Pred}
use Rattle.ir_values.specs.declared.int.Width.{Width}
use Rattle.ir_values.specs.declared.int.Width.TheVariants.{W1}
use Rattle.ir_values.specs.declared.ty.Ty.{Ty}
use Rattle.ir_values.specs.declared.ty.Ty.TheVariants as ty
use Rattle.ir_values.specs.declared.value.Value.{Value}
use Rattle.ir_values.specs.declared.value.Value.TheVariants as value
use Rattle.ir_values.specs.Arithmetic.{binary_of, compare_of, convert_of}
use Rattle.ir_values.specs.Int.{IntValue, signed}
use Rattle.output_records.specs.declared.record.Shown.{Shown}
use Rattle.output_records.specs.declared.record.Shown.TheVariants as shown
use Rattle.qir_meaning.specs.Effects.{is_one, same_bit, operation, first_result}
use Rattle.qir_meaning.specs.State.{State, Stop, Trap, Ask, bit_of, with_event, with_bit, with_record}
use Rattle.kept_items.specs.declared.item.Choice.{Choice}
use Rattle.kept_items.specs.declared.item.Choice.TheVariants as choice
use Rattle.kept_items.specs.declared.item.Code.{Code}
use Rattle.kept_items.specs.declared.item.Code.TheVariants as code
use Rattle.kept_items.specs.declared.item.Item.{Item}
use Rattle.kept_items.specs.declared.item.Item.TheVariants as item
use Rattle.kept_items.specs.declared.val.Dyn.{Dyn}
use Rattle.kept_items.specs.declared.val.Val.{Val}
use Rattle.kept_items.specs.declared.val.Val.TheVariants.{Known, Dynamic}

-- the Dynamic value of a number, of the values in order; every list of them is long enough where it is used
abbrev pub dynamic : List IntValue → Dyn → IntValue
dynamic ds d = slice_index_or ds d.0 (record { width = W1; bits = 0 })

abbrev pub valued : List IntValue → Val → Value
valued ds (Known v) = v
valued ds (Dynamic d) = value.Int (dynamic ds d)

-- the number that a code is
abbrev pub coded : List IntValue → Code → ℤ
coded ds (code.Known z) = z
coded ds (code.Dynamic d) = signed (dynamic ds d)

-- an item gives values, one or none, and leaves a state, or it ends the run, or it has no meaning: a value of another type
pub data Did : Type 0 where
  Gave : List IntValue → State → Did
  Stopped : Stop → State → Did
  Senseless : Did

abbrev pub bit_int : Bool → IntValue
bit_int b = record { width = W1; bits = if b then 1 else 0 }

-- what is found where a result is read
pub data Got : Type 0 where
  Bit : Bool → Got
  Unset : Got
  NoResult : Got

abbrev pub got : Option Bool → Got
got None = Unset
got (Some b) = Bit b

-- the bit of a result
abbrev pub bit_read : State → Value → Got
bit_read st value.One = Bit true
bit_read st value.Zero = Bit false
bit_read st (value.Id i) = got (bit_of st (result.Id i))
bit_read st (value.Measured i) = got (bit_of st (result.Measured i))
bit_read st v = NoResult

abbrev pub arg_of : Ty → Value → Option Arg
arg_of ty.Qubit (value.Id i) = Some (arg.Qubit (qubit.Id i))
arg_of ty.Qubit (value.Alloc j) = Some (arg.Qubit (qubit.Alloc j))
arg_of ty.Res (value.Id i) = Some (arg.Res (result.Id i))
arg_of ty.Res (value.Measured i) = Some (arg.Res (result.Measured i))
arg_of ty.Double (value.Double t) = Some (arg.Double t)
arg_of (ty.Int w) (value.Int i) = Some (arg.Int i)
arg_of t v = None

abbrev pub one_arg : Option Arg → Option (List Arg) → Option (List Arg)
one_arg None o = None
one_arg (Some a) None = None
one_arg (Some a) (Some rest) = Some (a ∷ rest)

-- the Dynamic values of the items before are ds, and the state is st
module _ (ds : List IntValue) (st : State) where
  abbrev pub args_of : List (Ty × Val) → Option (List Arg)
  args_of [] = Some []
  args_of (a ∷ rest) = one_arg (arg_of a.0 (valued ds a.1)) (args_of rest)

  -- integers

  abbrev pub computed : Result IntValue Cause → Did
  computed (Ok i) = Gave (i ∷ []) st
  computed (Err why) = Stopped (Trap why) st

  abbrev pub binary_did : BinOp → Flags → Value → Value → Did
  binary_did op flags (value.Int i) (value.Int j) = computed (binary_of op flags i j)
  binary_did op flags v u = Senseless

  abbrev pub icmp_did : Pred → Value → Value → Did
  icmp_did pred (value.Int i) (value.Int j) = Gave (bit_int (compare_of pred i j) ∷ []) st
  icmp_did pred v u = Senseless

  abbrev pub convert_did : Conv → Width → Value → Did
  convert_did conv w (value.Int i) = Gave (convert_of conv i w ∷ []) st
  convert_did conv w v = Senseless

  abbrev pub select_did : Value → Value → Value → Did
  select_did (value.Int c) (value.Int i) (value.Int j) = Gave ((if is_one c then i else j) ∷ []) st
  select_did v u w = Senseless

  -- results

  abbrev pub read_did : Got → (Bool → Did) → Did
  read_did (Bit b) go = go b
  read_did Unset go = Stopped (Trap cause.ReadUnset) st
  read_did NoResult go = Senseless

  -- operations

  abbrev pub gate_did : Op → List Answer → Did
  gate_did op [] = Stopped (Ask op) st
  gate_did op (answer.Done ∷ rest) = Gave [] (with_event st op answer.Done rest)
  gate_did op (answer.Bit b ∷ rest) = Stopped (Ask op) st

  abbrev pub measure_did : Op → ResultRef → List Answer → Did
  measure_did op r [] = Stopped (Ask op) st
  measure_did op r (answer.Done ∷ rest) = Stopped (Ask op) st
  measure_did op r (answer.Bit b ∷ rest) = Gave [] (with_bit (with_event st op (answer.Bit b) rest) r b)

  -- an operation with a result among its arguments is a measurement
  abbrev pub operation_did : Op → Option ResultRef → Did
  operation_did op None = gate_did op st.answers
  operation_did op (Some r) = measure_did op r st.answers

  abbrev pub issued : List ℕ → Option (List Arg) → Did
  issued name None = Senseless
  issued name (Some args) = operation_did (operation name args) (first_result args)

  -- records

  abbrev pub recorded_did : Value → Shown → Did
  recorded_did (value.Label g) what = Gave [] (with_record st (record { shown = what; label = Some g }))
  recorded_did value.NoLabel what = Gave [] (with_record st (record { shown = what; label = None }))
  recorded_did v what = Senseless

  abbrev pub output_did : Class → List Value → Did
  output_did class.Tuple (value.Int i ∷ l ∷ []) = recorded_did l (shown.Tuple (signed i))
  output_did class.Array (value.Int i ∷ l ∷ []) = recorded_did l (shown.Array (signed i))
  output_did class.ResRecord (v ∷ l ∷ []) = read_did (bit_read st v) (λ b. recorded_did l (shown.Res b))
  output_did class.BoolRecord (value.Int i ∷ l ∷ []) = recorded_did l (shown.Bool (is_one i))
  output_did class.IntRecord (value.Int i ∷ l ∷ []) = recorded_did l (shown.Int (signed i))
  output_did class.DoubleRecord (value.Double t ∷ l ∷ []) = recorded_did l (shown.Double t)
  output_did c vs = Senseless

  -- what it does; its own result is the value that it gives, whatever its number
  abbrev pub did : Item → Did
  did (item.Binary r op flags w a b) = binary_did op flags (valued ds a) (valued ds b)
  did (item.Icmp r pred w a b) = icmp_did pred (valued ds a) (valued ds b)
  did (item.Convert r conv w a to) = convert_did conv to (valued ds a)
  did (item.Select r w c a b) = select_did (valued ds c) (valued ds a) (valued ds b)
  did (item.Read r v) = read_did (bit_read st v) (λ b. Gave (bit_int b ∷ []) st)
  did (item.Equal r v u) = read_did (bit_read st v) (λ a. read_did (bit_read st u) (λ b. Gave (bit_int (same_bit a b) ∷ []) st))
  did (item.Operation name args) = issued name (args_of args)
  did (item.Output c args) = output_did c (map (λ a. valued ds a.1) args)

  -- where nothing is left, nothing happens
  abbrev pub did_some : Option Item → Did
  did_some None = Gave [] st
  did_some (Some i) = did i

abbrev pub case_of : IntValue → List IntValue → ℕ
case_of i [] = 0
case_of i (c ∷ cs) = if c.bits == i.bits then 0 else suc (case_of i cs)

-- the number of the successor that is taken, from 0
abbrev pub chosen : Choice → List IntValue → ℕ
chosen choice.One ds = 0
chosen (choice.Branch d) ds = if is_one (dynamic ds d) then 0 else 1
chosen (choice.Switch d w cases) ds = case_of (dynamic ds d) cases
