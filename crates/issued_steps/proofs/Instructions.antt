-- Instructions on integers issue nothing.
use Rattle.std.proofs.Common.{Option, refl}
use Rattle.std.specs.Prelude.{◌&&◌, ◌||◌, Result, Ok, Err, if◌then◌else◌}
use Rattle.ir_values.specs.declared.cause.Cause.{Cause}
use Rattle.ir_values.specs.declared.ids.LocalId.{LocalId}
use Rattle.ir_values.specs.declared.int.BinOp.{BinOp}
use Rattle.ir_values.specs.declared.int.Conv.{Conv}
use Rattle.ir_values.specs.declared.int.Flags.{Flags}
use Rattle.ir_values.specs.declared.int.Pred.{Pred}
use Rattle.ir_values.specs.declared.int.Width.{Width}
use Rattle.ir_values.specs.declared.ty.Ty.{Ty}
use Rattle.ir_values.specs.declared.ty.Ty.TheVariants as ty
use Rattle.ir_values.specs.declared.value.Value.{Value}
use Rattle.ir_values.specs.declared.value.Value.TheVariants as value
use Rattle.ir_values.specs.Arithmetic.{allows, binary_of, compare_of, converts, convert_of}
use Rattle.ir_values.specs.Int.{IntValue}
use Rattle.ir_values.specs.Values.{is_bit, is_bitwise, same_width}
use Rattle.kept_items.specs.declared.item.Item.TheVariants as item
use Rattle.kept_items.specs.declared.val.Dyn.{Dyn}
use Rattle.kept_items.specs.declared.val.Val.{Val}
use Rattle.kept_items.specs.declared.val.Val.TheVariants.{Known, Dynamic}
use Rattle.kept_items.specs.Items.{bit_int}
use Rattle.kept_items.specs.Targets.{has_ints}
use Rattle.qir_meaning.specs.Effects.{is_one}
use Rattle.static_steps.specs.declared.turn.Turn.TheVariants.{Lost}
use Rattle.static_steps.specs.Integers.{binary_known, binary_turn, convert_known, convert_turn, folded, icmp_known, icmp_turn, is_number, select_kept, select_known, select_turn}
use Rattle.static_steps.specs.Settings.{Setting, bound, gives_known, goes, kept_if}
use Rattle.static_steps.specs.Values.{same_known}
use Rattle.issued_steps.proofs.Turns.{Does, either-does, goes-does, kept-does, kept-if-does}

module _ (s : Setting) (x : Option LocalId) where
  pub known-does : (v : Value) → Does s (gives_known s x v)
  known-does v = goes-does s (bound s x (Known v)) refl

  folded-does : (r : Result IntValue Cause) → Does s (folded s x r)
  folded-does (Ok i) = known-does (value.Int i)
  folded-does (Err why) = tt

  binary-known : (o : BinOp) (flags : Flags) (v u : Value) → Does s (binary_known s x o flags v u)
  binary-known o flags (value.Int i) (value.Int j) = either-does s (same_width i.width j.width && allows o flags) (folded s x (binary_of o flags i j)) Lost (folded-does (binary_of o flags i j)) tt
  binary-known o flags v u = tt

  binary-kept : (o : BinOp) (flags : Flags) (w : Width) (a b : Val) → Does s (kept_if s x (has_ints s.t || (is_bit w && is_bitwise o)) (item.Binary s.fresh o flags w a b))
  binary-kept o flags w a b =
      kept-if-does s x (has_ints s.t || (is_bit w && is_bitwise o)) (item.Binary s.fresh o flags w a b) (kept-does s (item.Binary s.fresh o flags w a b) (bound s x (Dynamic s.fresh)) refl)

  pub binary-does : (o : BinOp) (flags : Flags) (w : Width) (a b : Val) → Does s (binary_turn s x o flags w a b)
  binary-does o flags w (Known v) (Known u) = binary-known o flags v u
  binary-does o flags w (Known v) (Dynamic d) = binary-kept o flags w (Known v) (Dynamic d)
  binary-does o flags w (Dynamic d) b = binary-kept o flags w (Dynamic d) b

  icmp-known : (o : Pred) (v u : Value) → Does s (icmp_known s x o v u)
  icmp-known o (value.Int i) (value.Int j) =
      either-does s (same_width i.width j.width) (gives_known s x (value.Int (bit_int (compare_of o i j)))) Lost (known-does (value.Int (bit_int (compare_of o i j)))) tt
  icmp-known o v u = tt

  icmp-kept : (o : Pred) (w : Width) (a b : Val) → Does s (kept_if s x (has_ints s.t || is_bit w) (item.Icmp s.fresh o w a b))
  icmp-kept o w a b = kept-if-does s x (has_ints s.t || is_bit w) (item.Icmp s.fresh o w a b) (kept-does s (item.Icmp s.fresh o w a b) (bound s x (Dynamic s.fresh)) refl)

  pub icmp-does : (o : Pred) (w : Width) (a b : Val) → Does s (icmp_turn s x o w a b)
  icmp-does o w (Known v) (Known u) = icmp-known o v u
  icmp-does o w (Known v) (Dynamic d) = icmp-kept o w (Known v) (Dynamic d)
  icmp-does o w (Dynamic d) b = icmp-kept o w (Dynamic d) b

  convert-known : (o : Conv) (v : Value) (to : Width) → Does s (convert_known s x o v to)
  convert-known o (value.Int i) to =
      either-does s (converts o i.width to) (gives_known s x (value.Int (convert_of o i to))) Lost (known-does (value.Int (convert_of o i to))) tt
  convert-known o v to = tt

  pub convert-does : (o : Conv) (w : Width) (a : Val) (to : Width) → Does s (convert_turn s x o w a to)
  convert-does o w (Known v) to = convert-known o v to
  convert-does o w (Dynamic d) to =
      kept-if-does s x (has_ints s.t) (item.Convert s.fresh o w (Dynamic d) to) (kept-does s (item.Convert s.fresh o w (Dynamic d) to) (bound s x (Dynamic s.fresh)) refl)

  select-known : (v : Value) (a b : Val) → Does s (select_known s x v a b)
  select-known (value.Int i) a b = goes-does s (bound s x (if is_one i then a else b)) refl
  select-known v a b = tt

  select-kept : (u : Ty) (d : Dyn) (a b : Val) → Does s (select_kept s x u d a b)
  select-kept (ty.Int w) d a b =
      either-does s (is_number a && is_number b) (kept_if s x (has_ints s.t || is_bit w) (item.Select s.fresh w (Dynamic d) a b)) Lost
      (kept-if-does s x (has_ints s.t || is_bit w) (item.Select s.fresh w (Dynamic d) a b) (kept-does s (item.Select s.fresh w (Dynamic d) a b) (bound s x (Dynamic s.fresh)) refl)) tt
  select-kept ty.Qubit d a b = tt
  select-kept ty.Res d a b = tt
  select-kept (ty.Func ws) d a b = tt
  select-kept u d a b = tt

  pub select-does : (u : Ty) (c a b : Val) → Does s (select_turn s x u c a b)
  select-does u (Known v) a b = select-known v a b
  select-does u (Dynamic d) a b = either-does s (same_known a b) (goes s (bound s x a)) (select_kept s x u d a b) (goes-does s (bound s x a) refl) (select-kept u d a b)
