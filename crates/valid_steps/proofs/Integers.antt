-- Instructions on integers, and select.
use Rattle.std.proofs.Common.{◌≡◌, ℕ, Bool, true, false, Option, Result, Ok, Err, List, length, refl, sym, ap, ◌∙◌, subst}
use Rattle.std.proofs.lemmas.Bool.{and_from}
use Rattle.std.specs.Prelude.{if◌then◌else◌, ◌&&◌, ◌||◌}
use Rattle.ir_module.specs.Steps.{step_in_module}
use Rattle.ir_values.specs.declared.cause.Cause.{Cause}
use Rattle.ir_values.specs.declared.ids.FuncId.{FuncId}
use Rattle.ir_values.specs.declared.ids.LocalId.{LocalId}
use Rattle.ir_values.specs.declared.int.BinOp.{BinOp}
use Rattle.ir_values.specs.declared.int.Conv.{Conv}
use Rattle.ir_values.specs.declared.int.Flags.{Flags}
use Rattle.ir_values.specs.declared.int.Pred.{Pred}
use Rattle.ir_values.specs.declared.int.Width.{Width}
use Rattle.ir_values.specs.declared.int.Width.TheVariants.{W1}
use Rattle.ir_values.specs.declared.ty.Ty.{Ty}
use Rattle.ir_values.specs.declared.ty.Ty.TheVariants as ty
use Rattle.ir_values.specs.declared.value.Value.TheVariants as value
use Rattle.ir_values.specs.Arithmetic.{allows, binary_of, compare_of, converts, convert_of}
use Rattle.ir_values.specs.Int.{IntValue}
use Rattle.ir_values.specs.Values.{is_bit, is_bitwise, same_width}
use Rattle.qir_meaning.specs.Effects.{is_one}
use Rattle.qir_meaning.specs.State.{next}
use Rattle.kept_items.specs.declared.item.Item.TheVariants as item
use Rattle.kept_items.specs.declared.val.Dyn.{Dyn}
use Rattle.kept_items.specs.declared.val.Val.{Val}
use Rattle.kept_items.specs.declared.val.Val.TheVariants.{Known, Dynamic}
use Rattle.kept_items.specs.Items.{bit_int}
use Rattle.kept_items.specs.Targets.{has_ints}
use Rattle.static_steps.specs.declared.turn.Turn.TheVariants.{Lost}
use Rattle.static_steps.specs.Configurations.{Bounds, MayVary, Stands}
use Rattle.static_steps.specs.Integers.{binary_turn, convert_turn, folded, icmp_turn, is_number, select_kept, select_turn}
use Rattle.static_steps.specs.Settings.{Setting, bound, gives_known, goes, kept_if}
use Rattle.static_steps.specs.Values.{same_known}
use Rattle.type_check.proofs.Equal.{same_width-decides}
use Rattle.typed_runs.proofs.Integers.{KeepsWidth, binary-width, convert-width}
use Rattle.valid_steps.specs.Items.{IsOperand}
use Rattle.valid_steps.proofs.Operands.{adaptive, by-int, varies}
use Rattle.valid_steps.proofs.Turns.{IsGood, Named, bound-good, either-good, kept-if-good, known-good}
use Rattle.valid_steps.proofs.Works.{IsWork, bounds_of}

module _ (s : Setting) (entry : FuncId) (k r : ℕ) (ts : List (Option Ty)) (now : IsWork s.m s.t s.live entry k r ts s.w)
    (stands : Stands (step_in_module s.m (next s.w.top.at))) (fresh : s.fresh.0 ≡ length ts) (x : Option LocalId) where
  abbrev here : Bounds
  here = bounds_of s.m s.t s.live entry k r s.w

  abbrev Is : Ty → Val → Type 0
  Is u a = IsOperand s.m s.t here ts u a

  -- ---- binary instructions

  folded-good : (w : Width) → Named now.function x (ty.Int w) → (o : Result IntValue Cause) → KeepsWidth w o → IsGood s entry k r ts (folded s x o)
  folded-good w name (Ok i) h = known-good s entry k r ts now stands x (ty.Int w) name (value.Int i) h
  folded-good w name (Err why) h = tt

  binary-kept : (w : Width) → Named now.function x (ty.Int w) → MayVary s.t (ty.Int w) → (o : BinOp) (flags : Flags) → allows o flags ≡ true → (a c : Val) → Is (ty.Int w) a → Is (ty.Int w) c
      → IsGood s entry k r ts (kept_if s x (has_ints s.t || (is_bit w && is_bitwise o)) (item.Binary s.fresh o flags w a c))
  binary-kept w name vary o flags may a c ha hc =
      kept-if-good s entry k r ts now stands x (ty.Int w) name fresh vary (item.Binary s.fresh o flags w a c) refl (has_ints s.t || (is_bit w && is_bitwise o)) (λ ok. (fresh, adaptive s.t w vary, may, ok, ha, hc))

  pub binary-good : (w : Width) → Named now.function x (ty.Int w) → (o : BinOp) (flags : Flags) → allows o flags ≡ true → (a c : Val) → Is (ty.Int w) a → Is (ty.Int w) c
      → IsGood s entry k r ts (binary_turn s x o flags w a c)
  binary-good w name o flags may a c ha hc =
      by-int s.m s.t here ts (λ y. IsGood s entry k r ts (binary_turn s x o flags w y c)) w a ha
      (λ i ei.
      by-int s.m s.t here ts (λ y. IsGood s entry k r ts (binary_turn s x o flags w (Known (value.Int i)) y)) w c hc
      (λ j ej.
      subst (λ q. IsGood s entry k r ts (if q then folded s x (binary_of o flags i j) else Lost))
      (sym (and_from (same_width i.width j.width) (allows o flags) ((same_width-decides i.width j.width).1 (ei ∙ sym ej)) may))
      (folded-good w name (binary_of o flags i j) (subst (λ v. KeepsWidth v (binary_of o flags i j)) ei (binary-width o flags i j))))
      (λ d vary is. binary-kept w name vary o flags may (Known (value.Int i)) (Dynamic d) ei (vary, is)))
      (λ d vary is. binary-kept w name vary o flags may (Dynamic d) c (vary, is) hc)

  -- ---- comparisons

  icmp-kept : (w : Width) → Named now.function x (ty.Int W1) → MayVary s.t (ty.Int w) → (o : Pred) (a c : Val) → Is (ty.Int w) a → Is (ty.Int w) c
      → IsGood s entry k r ts (kept_if s x (has_ints s.t || is_bit w) (item.Icmp s.fresh o w a c))
  icmp-kept w name vary o a c ha hc =
      kept-if-good s entry k r ts now stands x (ty.Int W1) name fresh (varies s.t w W1 vary) (item.Icmp s.fresh o w a c) refl (has_ints s.t || is_bit w) (λ ok. (fresh, adaptive s.t w vary, ok, ha, hc))

  pub icmp-good : (w : Width) → Named now.function x (ty.Int W1) → (o : Pred) (a c : Val) → Is (ty.Int w) a → Is (ty.Int w) c → IsGood s entry k r ts (icmp_turn s x o w a c)
  icmp-good w name o a c ha hc =
      by-int s.m s.t here ts (λ y. IsGood s entry k r ts (icmp_turn s x o w y c)) w a ha
      (λ i ei.
      by-int s.m s.t here ts (λ y. IsGood s entry k r ts (icmp_turn s x o w (Known (value.Int i)) y)) w c hc
      (λ j ej.
      subst (λ q. IsGood s entry k r ts (if q then gives_known s x (value.Int (bit_int (compare_of o i j))) else Lost))
      (sym ((same_width-decides i.width j.width).1 (ei ∙ sym ej)))
      (known-good s entry k r ts now stands x (ty.Int W1) name (value.Int (bit_int (compare_of o i j))) refl))
      (λ d vary is. icmp-kept w name vary o (Known (value.Int i)) (Dynamic d) ei (vary, is)))
      (λ d vary is. icmp-kept w name vary o (Dynamic d) c (vary, is) hc)

  -- ---- conversions

  pub convert-good : (w to : Width) → Named now.function x (ty.Int to) → (o : Conv) → converts o w to ≡ true → (a : Val) → Is (ty.Int w) a → IsGood s entry k r ts (convert_turn s x o w a to)
  convert-good w to name o may a ha =
      by-int s.m s.t here ts (λ y. IsGood s entry k r ts (convert_turn s x o w y to)) w a ha
      (λ i ei.
      subst (λ q. IsGood s entry k r ts (if q then gives_known s x (value.Int (convert_of o i to)) else Lost))
      (sym (ap (λ v. converts o v to) ei ∙ may))
      (known-good s entry k r ts now stands x (ty.Int to) name (value.Int (convert_of o i to)) (convert-width o i to)))
      (λ d vary is.
      kept-if-good s entry k r ts now stands x (ty.Int to) name fresh (varies s.t w to vary) (item.Convert s.fresh o w (Dynamic d) to) refl (has_ints s.t) (λ ok. (fresh, may, ok, (vary, is))))

  -- ---- select

  number : (w : Width) (a : Val) → Is (ty.Int w) a → is_number a ≡ true
  number w a h = by-int s.m s.t here ts (λ y. is_number y ≡ true) w a h (λ i e. refl) (λ d vary is. refl)

  select-kept : (u : Ty) → Named now.function x u → MayVary s.t (ty.Int W1) → (d : Dyn) → Is (ty.Int W1) (Dynamic d) → (a c : Val) → Is u a → Is u c → IsGood s entry k r ts (select_kept s x u d a c)
  select-kept (ty.Int w) name vary d hd a c ha hc =
      subst (λ q. IsGood s entry k r ts (if q then kept_if s x (has_ints s.t || is_bit w) (item.Select s.fresh w (Dynamic d) a c) else Lost))
      (sym (and_from (is_number a) (is_number c) (number w a ha) (number w c hc)))
      (kept-if-good s entry k r ts now stands x (ty.Int w) name fresh (varies s.t W1 w vary) (item.Select s.fresh w (Dynamic d) a c) refl (has_ints s.t || is_bit w) (λ ok. (fresh, adaptive s.t W1 vary, ok, hd, ha, hc)))
  select-kept ty.Qubit name vary d hd a c ha hc = tt
  select-kept ty.Res name vary d hd a c ha hc = tt
  select-kept (ty.Func ws) name vary d hd a c ha hc = tt
  select-kept u name vary d hd a c ha hc = tt

  chosen : (u : Ty) (q : Bool) (a c : Val) → Is u a → Is u c → Is u (if q then a else c)
  chosen u true a c ha hc = ha
  chosen u false a c ha hc = hc

  pub select-good : (u : Ty) → Named now.function x u → (p a c : Val) → Is (ty.Int W1) p → Is u a → Is u c → IsGood s entry k r ts (select_turn s x u p a c)
  select-good u name p a c hp ha hc =
      by-int s.m s.t here ts (λ y. IsGood s entry k r ts (select_turn s x u y a c)) W1 p hp
      (λ i ei. bound-good s entry k r ts now stands x u name (if is_one i then a else c) (chosen u (is_one i) a c ha hc))
      (λ d vary is.
      either-good s entry k r ts (same_known a c) (goes s (bound s x a)) (select_kept s x u d a c)
      (λ e. bound-good s entry k r ts now stands x u name a ha)
      (λ e. select-kept u name vary d (vary, is) a c ha hc))
