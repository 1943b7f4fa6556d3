-- Instructions on integers, and select.
use Rattle.std.proofs.Common.{◌≡◌, Bool, true, false, ◌&&◌, Option, Result, Ok, Err, refl, ap}
use Rattle.std.proofs.lemmas.Bool.{and_from}
use Rattle.std.specs.Prelude.{◌||◌, if◌then◌else◌}
use Rattle.ir_values.specs.declared.cause.Cause.{Cause}
use Rattle.ir_values.specs.declared.ids.LocalId.{LocalId}
use Rattle.ir_values.specs.declared.int.BinOp.{BinOp}
use Rattle.ir_values.specs.declared.int.Conv.{Conv}
use Rattle.ir_values.specs.declared.int.Flags.{Flags}
use Rattle.ir_values.specs.declared.int.Pred.{Pred}
use Rattle.ir_values.specs.declared.int.Width.{Width}
use Rattle.ir_values.specs.declared.ty.Ty.{Ty}
use Rattle.ir_values.specs.declared.ty.Ty.TheVariants as ty
use Rattle.ir_values.specs.declared.value.Value.{Value}
use Rattle.ir_values.specs.declared.value.Value.TheVariants as value
use Rattle.ir_values.specs.Arithmetic.{allows, binary_of, compare_of, convert_of, converts}
use Rattle.ir_values.specs.Int.{IntValue}
use Rattle.ir_values.specs.Values.{is_bit, is_bitwise, same_width}
use Rattle.qir_meaning.specs.Effects.{is_one}
use Rattle.kept_items.specs.declared.item.Item.TheVariants as item
use Rattle.kept_items.specs.declared.val.Dyn.{Dyn}
use Rattle.kept_items.specs.declared.val.Val.{Val}
use Rattle.kept_items.specs.declared.val.Val.TheVariants.{Known, Dynamic}
use Rattle.kept_items.specs.Items.{bit_int}
use Rattle.kept_items.specs.Targets.{has_ints}
use Rattle.static_steps.specs.declared.turn.Turn.TheVariants.{Lost}
use Rattle.static_steps.specs.Integers.{binary_known, binary_turn, convert_known, convert_turn, folded, icmp_known, icmp_turn, is_number, select_kept, select_known, select_turn}
use Rattle.static_steps.specs.Settings.{Setting, bound, gives_known, goes, kept_if}
use Rattle.static_steps.specs.Values.{same_known}
use Rattle.printable_values.proofs.Integers.{binary-prints, convert-prints}
use Rattle.printable_values.specs.Laws.{result_prints}
use Rattle.printable_values.specs.Values.{val_prints, value_prints}
use Rattle.printable_steps.specs.Turns.{turn_prints}
use Rattle.printable_steps.proofs.Names.{work_prints}
use Rattle.printable_steps.proofs.Turns.{binds-prints, either-prints, kept-if-prints, known-prints}

pub bit-prints : (b : Bool) → value_prints (value.Int (bit_int b)) ≡ true
bit-prints true = refl
bit-prints false = refl

two : (a b : Val) → val_prints a ≡ true → val_prints b ≡ true → (val_prints a && (val_prints b && true)) ≡ true
two a b h g = and_from (val_prints a) (val_prints b && true) h (ap (λ s. s && true) g)

module _ (s : Setting) (now : work_prints s.w ≡ true) (x : Option LocalId) where
  -- ---- binary instructions

  folded-prints : (o : Result IntValue Cause) → result_prints o ≡ true → turn_prints (folded s x o) ≡ true
  folded-prints (Ok i) h = known-prints s now x (value.Int i) h
  folded-prints (Err why) h = refl

  binary-known : (o : BinOp) (flags : Flags) (v u : Value) → turn_prints (binary_known s x o flags v u) ≡ true
  binary-known o flags (value.Int i) (value.Int j) = either-prints (same_width i.width j.width && allows o flags) (folded s x (binary_of o flags i j)) Lost (folded-prints (binary_of o flags i j) (binary-prints o flags i j)) refl
  binary-known o flags v u = refl

  binary-kept : (o : BinOp) (flags : Flags) (w : Width) (a b : Val) → val_prints a ≡ true → val_prints b ≡ true → turn_prints (kept_if s x (has_ints s.t || (is_bit w && is_bitwise o)) (item.Binary s.fresh o flags w a b)) ≡ true
  binary-kept o flags w a b h g = kept-if-prints s now x (has_ints s.t || (is_bit w && is_bitwise o)) (item.Binary s.fresh o flags w a b) (two a b h g)

  pub binary-turn : (o : BinOp) (flags : Flags) (w : Width) (a b : Val) → val_prints a ≡ true → val_prints b ≡ true → turn_prints (binary_turn s x o flags w a b) ≡ true
  binary-turn o flags w (Known v) (Known u) h g = binary-known o flags v u
  binary-turn o flags w (Known v) (Dynamic d) h g = binary-kept o flags w (Known v) (Dynamic d) h g
  binary-turn o flags w (Dynamic d) (Known u) h g = binary-kept o flags w (Dynamic d) (Known u) h g
  binary-turn o flags w (Dynamic d) (Dynamic e) h g = binary-kept o flags w (Dynamic d) (Dynamic e) h g

  -- ---- comparisons

  icmp-known : (o : Pred) (v u : Value) → turn_prints (icmp_known s x o v u) ≡ true
  icmp-known o (value.Int i) (value.Int j) = either-prints (same_width i.width j.width) (gives_known s x (value.Int (bit_int (compare_of o i j)))) Lost (known-prints s now x (value.Int (bit_int (compare_of o i j))) (bit-prints (compare_of o i j))) refl
  icmp-known o v u = refl

  icmp-kept : (o : Pred) (w : Width) (a b : Val) → val_prints a ≡ true → val_prints b ≡ true → turn_prints (kept_if s x (has_ints s.t || is_bit w) (item.Icmp s.fresh o w a b)) ≡ true
  icmp-kept o w a b h g = kept-if-prints s now x (has_ints s.t || is_bit w) (item.Icmp s.fresh o w a b) (two a b h g)

  pub icmp-turn : (o : Pred) (w : Width) (a b : Val) → val_prints a ≡ true → val_prints b ≡ true → turn_prints (icmp_turn s x o w a b) ≡ true
  icmp-turn o w (Known v) (Known u) h g = icmp-known o v u
  icmp-turn o w (Known v) (Dynamic d) h g = icmp-kept o w (Known v) (Dynamic d) h g
  icmp-turn o w (Dynamic d) (Known u) h g = icmp-kept o w (Dynamic d) (Known u) h g
  icmp-turn o w (Dynamic d) (Dynamic e) h g = icmp-kept o w (Dynamic d) (Dynamic e) h g

  -- ---- conversions

  convert-known : (o : Conv) (v : Value) (to : Width) → turn_prints (convert_known s x o v to) ≡ true
  convert-known o (value.Int i) to = either-prints (converts o i.width to) (gives_known s x (value.Int (convert_of o i to))) Lost (known-prints s now x (value.Int (convert_of o i to)) (convert-prints o i to)) refl
  convert-known o v to = refl

  pub convert-turn : (o : Conv) (w : Width) (a : Val) (to : Width) → turn_prints (convert_turn s x o w a to) ≡ true
  convert-turn o w (Known v) to = convert-known o v to
  convert-turn o w (Dynamic d) to = kept-if-prints s now x (has_ints s.t) (item.Convert s.fresh o w (Dynamic d) to) refl

  -- ---- select

  either-val : (b : Bool) (a c : Val) → val_prints a ≡ true → val_prints c ≡ true → val_prints (if b then a else c) ≡ true
  either-val true a c h g = h
  either-val false a c h g = g

  select-known : (v : Value) (a b : Val) → val_prints a ≡ true → val_prints b ≡ true → turn_prints (select_known s x v a b) ≡ true
  select-known (value.Int i) a b h g = binds-prints s now x (if is_one i then a else b) (either-val (is_one i) a b h g)
  select-known v a b h g = refl

  select-kept : (u : Ty) (d : Dyn) (a b : Val) → val_prints a ≡ true → val_prints b ≡ true → turn_prints (select_kept s x u d a b) ≡ true
  select-kept (ty.Int w) d a b h g =
      either-prints (is_number a && is_number b) (kept_if s x (has_ints s.t || is_bit w) (item.Select s.fresh w (Dynamic d) a b)) Lost
      (kept-if-prints s now x (has_ints s.t || is_bit w) (item.Select s.fresh w (Dynamic d) a b) (two a b h g)) refl
  select-kept u d a b h g = refl

  pub select-turn : (u : Ty) (p a b : Val) → val_prints a ≡ true → val_prints b ≡ true → turn_prints (select_turn s x u p a b) ≡ true
  select-turn u (Known v) a b h g = select-known v a b h g
  select-turn u (Dynamic d) a b h g = either-prints (same_known a b) (goes s (bound s x a)) (select_kept s x u d a b) (binds-prints s now x a h) (select-kept u d a b h g)
