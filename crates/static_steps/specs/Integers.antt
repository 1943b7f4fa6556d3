-- Instructions on integers, and `select`, with the result x (LLVM Language Reference, 'Binary Operations', 'Bitwise Binary
-- Operations', 'Conversion Operations', 'icmp Instruction', 'select Instruction').
use Rattle.std.specs.Prelude.{Bool, true, false, ◌&&◌, ◌||◌, if◌then◌else◌, Option, Result, Ok, Err}
use Rattle.ir_values.specs.declared.cause.Cause.{Cause}
use Rattle.ir_values.specs.declared.ids.LocalId.{LocalId}
use Rattle.ir_values.specs.declared.int.BinOp.{BinOp}
use Rattle.ir_values.specs.declared.int.BinOp.TheVariants as op
use Rattle.ir_values.specs.declared.int.Conv.{Conv}
use Rattle.ir_values.specs.declared.int.Flags.{Flags}
use Rattle.ir_values.specs.declared.int.Pred.{Pred}
use Rattle.ir_values.specs.declared.int.Width.{Width}
use Rattle.ir_values.specs.declared.int.Width.TheVariants.{W1, W8, W16, W32, W64}
use Rattle.ir_values.specs.declared.ty.Ty.{Ty}
use Rattle.ir_values.specs.declared.ty.Ty.TheVariants as ty
use Rattle.ir_values.specs.declared.value.Value.{Value}
use Rattle.ir_values.specs.declared.value.Value.TheVariants as value
use Rattle.ir_values.specs.Arithmetic.{allows, binary_of, compare_of, converts, convert_of}
use Rattle.ir_values.specs.Int.{IntValue}
use Rattle.qir_meaning.specs.Effects.{is_one}
use Rattle.ir_values.specs.Values.{is_bit, is_bitwise, same_width}
use Rattle.kept_items.specs.declared.item.Item.TheVariants.{Binary, Icmp, Convert, Select}
use Rattle.kept_items.specs.declared.target.Kind.TheVariants as kind
use Rattle.kept_items.specs.declared.val.Dyn.{Dyn}
use Rattle.kept_items.specs.declared.val.Val.{Val}
use Rattle.kept_items.specs.declared.val.Val.TheVariants.{Known, Dynamic}
use Rattle.kept_items.specs.Items.{bit_int}
use Rattle.kept_items.specs.Targets.{has_ints}
use Rattle.static_steps.specs.declared.turn.Turn.{Turn}
use Rattle.static_steps.specs.declared.turn.Turn.TheVariants.{Bad, Lost}
use Rattle.static_steps.specs.Settings.{Setting, bound, gives_known, goes, kept_if}
use Rattle.static_steps.specs.Values.{same_known}

-- an integer, known or Dynamic
abbrev pub is_number : Val → Bool
is_number (Known (value.Int i)) = true
is_number (Known v) = false
is_number (Dynamic d) = true

module _ (s : Setting) (x : Option LocalId) where
  -- all operands are known: the result is too, or the instruction traps
  abbrev pub folded : Result IntValue Cause → Turn
  folded (Ok i) = gives_known s x (value.Int i)
  folded (Err why) = Bad (kind.Traps why)

  -- binary instructions

  abbrev pub binary_ints : BinOp → Flags → IntValue → IntValue → Turn
  binary_ints o flags i j = if same_width i.width j.width && allows o flags then folded (binary_of o flags i j) else Lost

  abbrev pub binary_known : BinOp → Flags → Value → Value → Turn
  binary_known o flags (value.Int i) (value.Int j) = binary_ints o flags i j
  binary_known o flags v u = Lost

  -- an operand is Dynamic: on bits the bitwise operations need no capability
  abbrev pub binary_kept : BinOp → Flags → Width → Val → Val → Turn
  binary_kept o flags wd a b = kept_if s x (has_ints s.t || (is_bit wd && is_bitwise o)) (Binary s.fresh o flags wd a b)

  abbrev pub binary_turn : BinOp → Flags → Width → Val → Val → Turn
  binary_turn o flags wd (Known v) (Known u) = binary_known o flags v u
  binary_turn o flags wd a b = binary_kept o flags wd a b

  -- comparisons

  abbrev pub icmp_ints : Pred → IntValue → IntValue → Turn
  icmp_ints o i j = if same_width i.width j.width then gives_known s x (value.Int (bit_int (compare_of o i j))) else Lost

  abbrev pub icmp_known : Pred → Value → Value → Turn
  icmp_known o (value.Int i) (value.Int j) = icmp_ints o i j
  icmp_known o v u = Lost

  abbrev pub icmp_kept : Pred → Width → Val → Val → Turn
  icmp_kept o wd a b = kept_if s x (has_ints s.t || is_bit wd) (Icmp s.fresh o wd a b)

  abbrev pub icmp_turn : Pred → Width → Val → Val → Turn
  icmp_turn o wd (Known v) (Known u) = icmp_known o v u
  icmp_turn o wd a b = icmp_kept o wd a b

  -- conversions

  abbrev pub convert_int : Conv → IntValue → Width → Turn
  convert_int o i to = if converts o i.width to then gives_known s x (value.Int (convert_of o i to)) else Lost

  abbrev pub convert_known : Conv → Value → Width → Turn
  convert_known o (value.Int i) to = convert_int o i to
  convert_known o v to = Lost

  abbrev pub convert_turn : Conv → Width → Val → Width → Turn
  convert_turn o wd (Known v) to = convert_known o v to
  convert_turn o wd (Dynamic d) to = kept_if s x (has_ints s.t) (Convert s.fresh o wd (Dynamic d) to)

  -- a choice of two values

  abbrev pub select_known : Value → Val → Val → Turn
  select_known (value.Int i) a b = goes s (bound s x (if is_one i then a else b))
  select_known v a b = Lost

  abbrev pub select_ints : Width → Dyn → Val → Val → Turn
  select_ints wd d a b =
      if is_number a && is_number b then kept_if s x (has_ints s.t || is_bit wd) (Select s.fresh wd (Dynamic d) a b) else Lost

  -- only integers are chosen by a run
  abbrev pub select_kept : Ty → Dyn → Val → Val → Turn
  select_kept (ty.Int wd) d a b = select_ints wd d a b
  select_kept ty.Qubit d a b = Bad kind.Handle
  select_kept ty.Res d a b = Bad kind.Handle
  select_kept (ty.Func ws) d a b = Bad kind.Target
  select_kept other d a b = Bad kind.Token

  -- two known values that are equal need no choice
  abbrev pub select_dynamic : Ty → Dyn → Val → Val → Turn
  select_dynamic t' d a b = if same_known a b then goes s (bound s x a) else select_kept t' d a b

  abbrev pub select_turn : Ty → Val → Val → Val → Turn
  select_turn t' (Known v) a b = select_known v a b
  select_turn t' (Dynamic d) a b = select_dynamic t' d a b
