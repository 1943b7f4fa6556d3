-- What a run does beside the static step of instructions on integers and of `select`.
use Rattle.std.proofs.Common.{◌≡◌, Bool, true, false, Option, List, [], ◌∷◌, length, refl, sym, subst, Result, Ok, Err}
use Rattle.std.specs.Prelude.{if◌then◌else◌, ◌||◌, ◌&&◌}
use Rattle.ir_module.specs.declared.places.Point.{Point}
use Rattle.ir_module.specs.declared.tree.InstKind.TheVariants as kind
use Rattle.ir_module.specs.declared.tree.Operand.{Operand}
use Rattle.ir_values.specs.declared.cause.Cause.{Cause}
use Rattle.ir_values.specs.declared.ids.LocalId.{LocalId}
use Rattle.ir_values.specs.declared.int.BinOp.{BinOp}
use Rattle.ir_values.specs.declared.int.Conv.{Conv}
use Rattle.ir_values.specs.declared.int.Flags.{Flags}
use Rattle.ir_values.specs.declared.int.Pred.{Pred}
use Rattle.ir_values.specs.declared.int.Width.{Width}
use Rattle.ir_values.specs.declared.ty.Ty.{Ty}
use Rattle.ir_values.specs.declared.ty.Ty.TheVariants as ty
use Rattle.ir_values.specs.declared.value.Value.{Value}
use Rattle.ir_values.specs.declared.value.Value.TheVariants as value
use Rattle.ir_values.specs.Arithmetic.{allows, binary_of, compare_of, converts, convert_of}
use Rattle.ir_values.specs.Int.{IntValue}
use Rattle.qir_meaning.specs.Effects.{gives, is_one}
use Rattle.qir_meaning.specs.Moves.{performs, computes}
use Rattle.qir_meaning.specs.State.{Env, State, next}
use Rattle.qir_meaning.specs.State as run
use Rattle.qir_meaning.specs.code.Steps.{Waiting, Whole, tick_of}
use Rattle.kept_items.specs.declared.item.Choice.TheVariants.{One}
use Rattle.kept_items.specs.declared.item.Item.{Item}
use Rattle.kept_items.specs.declared.item.Item.TheVariants.{Binary, Icmp, Convert, Select}
use Rattle.kept_items.specs.declared.val.Dyn.{Dyn}
use Rattle.kept_items.specs.declared.val.Val.{Val}
use Rattle.kept_items.specs.declared.val.Val.TheVariants.{Known, Dynamic}
use Rattle.kept_items.specs.Items.{Did, Gave, binary_did, bit_int, computed, did, dynamic, icmp_did, select_did, valued}
use Rattle.kept_items.specs.Targets.{has_ints}
use Rattle.static_steps.specs.declared.turn.Turn.{Turn}
use Rattle.static_steps.specs.declared.turn.Turn.TheVariants.{Lost}
use Rattle.static_steps.specs.Integers.{binary_known, binary_turn, convert_known, convert_turn, folded, icmp_known, icmp_turn, is_number, select_kept, select_turn}
use Rattle.static_steps.specs.Settings.{Setting, bound, gives_known, goes, kept_if}
use Rattle.ir_values.specs.Values.{is_bit, is_bitwise, same_width}
use Rattle.static_steps.specs.Values.{same_known}
use Rattle.runs_follow_steps.specs.Describes.{Fits, IsNot, ResultInRange}
use Rattle.runs_follow_steps.specs.Meets.{DidMeets, TurnMeets, traps}
use Rattle.runs_follow_steps.proofs.Bound.{gives-fresh, gives-known, gives-val, kept-if, kept-moves, whole}
use Rattle.runs_follow_steps.proofs.Frames.{In}
use Rattle.static_steps.proofs.SameValues.{same-values}

module _ (s : Setting) (ds : List IntValue) (env : Env) (us : List Waiting) (st : State) (fits : Fits s.m s.live ds s.w env us st) (counted : s.fresh.0 ≡ length ds)
    (x : Option LocalId) (passes : (y : LocalId) → s.live (next s.w.top.at) y ≡ true → IsNot x y → s.live s.w.top.at y ≡ true) (range : ResultInRange s.m s.w.top.at.func x) where
  abbrev here : Point
  here = s.w.top.at

  abbrev v : Whole
  v = whole s.w env us st

  abbrev Meets : run.Move → Turn → Type 0
  Meets mv u = TurnMeets s.m s.live (tick_of v mv) ds st u

  abbrev Kept : run.Move → Did → Type 0
  Kept mv d = DidMeets s.m s.live (tick_of v mv) (kept-moves s ds env us st fits counted x passes range) One ds d

  fresh-value : (i : IntValue) → Kept (gives here env x st (value.Int i) st) (Gave (i ∷ []) st)
  fresh-value i = gives-fresh s ds env us st fits counted x passes range i

  known-value : (u : Value) → Meets (gives here env x st u st) (gives_known s x u)
  known-value u = gives-known s ds env us st fits counted x passes range u

  permitted : (ok : Bool) (item : Item) (mv : run.Move) → Kept mv (did ds st item) → Meets mv (kept_if s x ok item)
  permitted ok item mv h = kept-if s ds env us st fits counted x passes range ok item (tick_of v mv) h

  -- a test that the definition makes
  tested : (ok : Bool) (mv : run.Move) (u : Turn) → Meets mv u → Meets mv (if ok then u else Lost)
  tested true mv u h = h
  tested false mv u h = tt

  module _ (o : BinOp) (flags : Flags) (t' : Ty) (a b : Operand) where
    abbrev binary-move : Value → Value → run.Move
    binary-move p q = performs s.m here env st x (kind.Binary o flags t' a b) (p ∷ q ∷ [])

    folded-meets : (r : Result IntValue Cause) → Meets (computes s.m here env st x r) (folded s x r)
    folded-meets (Ok i) = known-value (value.Int i)
    folded-meets (Err why) = traps refl

    computed-meets : (r : Result IntValue Cause) → Kept (computes s.m here env st x r) (computed ds st r)
    computed-meets (Ok i) = fresh-value i
    computed-meets (Err why) = (st, refl, refl)

    kept-binary : (p q : Value) → Kept (binary-move p q) (binary_did ds st o flags p q)
    kept-binary (value.Int i) (value.Int j) = computed-meets (binary_of o flags i j)
    kept-binary p q = refl

    known-binary : (p q : Value) → Meets (binary-move p q) (binary_known s x o flags p q)
    known-binary (value.Int i) (value.Int j) =
        tested (same_width i.width j.width && allows o flags) (binary-move (value.Int i) (value.Int j)) (folded s x (binary_of o flags i j)) (folded-meets (binary_of o flags i j))
    known-binary p q = tt

    pub binary-meets : (wd : Width) (p q : Val) → Meets (binary-move (valued ds p) (valued ds q)) (binary_turn s x o flags wd p q)
    binary-meets wd (Known p) (Known q) = known-binary p q
    binary-meets wd p q =
        permitted (has_ints s.t || (is_bit wd && is_bitwise o)) (Binary s.fresh o flags wd p q) (binary-move (valued ds p) (valued ds q)) (kept-binary (valued ds p) (valued ds q))

  module _ (o : Pred) (t' : Ty) (a b : Operand) where
    abbrev icmp-move : Value → Value → run.Move
    icmp-move p q = performs s.m here env st x (kind.Icmp o t' a b) (p ∷ q ∷ [])

    kept-icmp : (p q : Value) → Kept (icmp-move p q) (icmp_did ds st o p q)
    kept-icmp (value.Int i) (value.Int j) = fresh-value (bit_int (compare_of o i j))
    kept-icmp p q = refl

    known-icmp : (p q : Value) → Meets (icmp-move p q) (icmp_known s x o p q)
    known-icmp (value.Int i) (value.Int j) =
        tested (same_width i.width j.width) (icmp-move (value.Int i) (value.Int j)) (gives_known s x (value.Int (bit_int (compare_of o i j)))) (known-value (value.Int (bit_int (compare_of o i j))))
    known-icmp p q = tt

    pub icmp-meets : (wd : Width) (p q : Val) → Meets (icmp-move (valued ds p) (valued ds q)) (icmp_turn s x o wd p q)
    icmp-meets wd (Known p) (Known q) = known-icmp p q
    icmp-meets wd p q =
        permitted (has_ints s.t || is_bit wd) (Icmp s.fresh o wd p q) (icmp-move (valued ds p) (valued ds q)) (kept-icmp (valued ds p) (valued ds q))

  module _ (o : Conv) (t' : Ty) (a : Operand) (to : Width) where
    abbrev convert-move : Value → run.Move
    convert-move p = performs s.m here env st x (kind.Convert o t' a (ty.Int to)) (p ∷ [])

    known-convert : (p : Value) → Meets (convert-move p) (convert_known s x o p to)
    known-convert (value.Int i) =
        tested (converts o i.width to) (convert-move (value.Int i)) (gives_known s x (value.Int (convert_of o i to))) (known-value (value.Int (convert_of o i to)))
    known-convert p = tt

    pub convert-meets : (wd : Width) (p : Val) → Meets (convert-move (valued ds p)) (convert_turn s x o wd p to)
    convert-meets wd (Known p) = known-convert p
    convert-meets wd (Dynamic d) =
        permitted (has_ints s.t) (Convert s.fresh o wd (Dynamic d) to) (convert-move (valued ds (Dynamic d))) (fresh-value (convert_of o (dynamic ds d) to))

  -- a value of the configuration
  old-value : (a : Val) → In ds a → Meets (gives here env x st (valued ds a) st) (goes s (bound s x a))
  old-value a i = gives-val s ds env us st fits counted x passes range a i

  number-is : (a : Val) → is_number a ≡ true → (i : IntValue) × (valued ds a ≡ value.Int i)
  number-is (Known (value.Int i)) h = (i, refl)
  number-is (Dynamic d) h = (dynamic ds d, refl)
  number-is (Known p) h = cc

  module _ (c : Operand) (t' u' : Ty) (a b : Operand) where
    abbrev select-move : Value → Value → Value → run.Move
    select-move p q r = performs s.m here env st x (kind.Select c t' a u' b) (p ∷ q ∷ r ∷ [])

    kept-select : (i j k : IntValue) → Kept (select-move (value.Int i) (value.Int j) (value.Int k)) (select_did ds st (value.Int i) (value.Int j) (value.Int k))
    kept-select i j k = by-bit (is_one i)
      where
        by-bit : (z : Bool) → Kept (gives here env x st (if z then value.Int j else value.Int k) st) (Gave ((if z then j else k) ∷ []) st)
        by-bit true = fresh-value j
        by-bit false = fresh-value k

    ints-select : (wd : Width) (d : Dyn) (p q : Val) (y z : Bool) → is_number p ≡ y → is_number q ≡ z
        → Meets (select-move (valued ds (Dynamic d)) (valued ds p) (valued ds q)) (if y && z then kept_if s x (has_ints s.t || is_bit wd) (Select s.fresh wd (Dynamic d) p q) else Lost)
    ints-select wd d p q true true e e' =
        let i = number-is p e in
        let j = number-is q e' in
        permitted (has_ints s.t || is_bit wd) (Select s.fresh wd (Dynamic d) p q) (select-move (valued ds (Dynamic d)) (valued ds p) (valued ds q))
        (subst (λ u. Kept (select-move (valued ds (Dynamic d)) u (valued ds q)) (select_did ds st (valued ds (Dynamic d)) u (valued ds q))) (sym i.1)
        (subst (λ u. Kept (select-move (valued ds (Dynamic d)) (value.Int i.0) u) (select_did ds st (valued ds (Dynamic d)) (value.Int i.0) u)) (sym j.1)
        (kept-select (dynamic ds d) i.0 j.0)))
    ints-select wd d p q true false e e' = tt
    ints-select wd d p q false z e e' = tt

    select-kept : (t'' : Ty) (d : Dyn) (p q : Val) → Meets (select-move (valued ds (Dynamic d)) (valued ds p) (valued ds q)) (select_kept s x t'' d p q)
    select-kept (ty.Int wd) d p q = ints-select wd d p q (is_number p) (is_number q) refl refl
    select-kept t'' d p q = tt

    -- the two values are equal, so it does not matter which is taken
    select-same : (d : Dyn) (p q : Val) → same_known p q ≡ true → Meets (select-move (valued ds (Dynamic d)) (valued ds p) (valued ds q)) (goes s (bound s x p))
    select-same d (Known p) (Known q) e =
        subst (λ u. Meets (select-move (valued ds (Dynamic d)) p u) (goes s (bound s x (Known p)))) (same-values p q e) (by-bit (is_one (dynamic ds d)))
      where
        by-bit : (z : Bool) → Meets (gives here env x st (if z then p else p) st) (goes s (bound s x (Known p)))
        by-bit true = known-value p
        by-bit false = known-value p
    select-same d (Known p) (Dynamic e') e = cc
    select-same d (Dynamic e') q e = cc

    pub select-meets : (t'' : Ty) (c' p q : Val) → In ds p → In ds q → Meets (select-move (valued ds c') (valued ds p) (valued ds q)) (select_turn s x t'' c' p q)
    select-meets t'' (Known (value.Int n)) p q i j = by-bit (is_one n)
      where
        by-bit : (z : Bool) → Meets (gives here env x st (if z then valued ds p else valued ds q) st) (goes s (bound s x (if z then p else q)))
        by-bit true = old-value p i
        by-bit false = old-value q j
    select-meets t'' (Known y) p q i j = tt
    select-meets t'' (Dynamic d) p q i j = by-test (same_known p q) refl
      where
        by-test : (b : Bool) → same_known p q ≡ b → Meets (select-move (valued ds (Dynamic d)) (valued ds p) (valued ds q)) (if b then goes s (bound s x p) else select_kept s x t'' d p q)
        by-test true e = select-same d p q e
        by-test false e = select-kept t'' d p q
