-- An item that fits passes the tests of a valid residue, by whatever numbers.
use Rattle.std.proofs.Common.{◌≡◌, ⊎_elim, ℕ, Bool, true, false, Option, None, Some, List, [], ◌∷◌, length, map, refl, sym, ap, ◌∙◌, subst}
use Rattle.std.proofs.lemmas.Bool.{and_from, lt-ltb, or_from}
use Rattle.std.specs.List.{list_all, list_any}
use Rattle.std.specs.Prelude.{⊤, ◌&&◌, ◌||◌, not}
use Rattle.ir_values.specs.declared.cause.Cause.{Cause}
use Rattle.ir_values.specs.declared.class.Class.{Class}
use Rattle.ir_values.specs.declared.class.Class.TheVariants as class
use Rattle.ir_values.specs.declared.ty.Ty.{Ty}
use Rattle.ir_values.specs.declared.ty.Ty.TheVariants as ty
use Rattle.ir_values.specs.declared.value.Value.{Value}
use Rattle.ir_values.specs.declared.value.Value.TheVariants as value
use Rattle.ir_values.specs.Calls.{class_of}
use Rattle.ir_values.specs.ClassTypes.{HasTypes}
use Rattle.ir_values.specs.Types.{signature}
use Rattle.ir_values.specs.Values.{is_bit, is_bitwise}
use Rattle.ir_module.specs.declared.tree.Module.{Module}
use Rattle.kept_items.specs.declared.item.Item.{Item}
use Rattle.kept_items.specs.declared.item.Item.TheVariants as item
use Rattle.kept_items.specs.declared.target.Caps.{Caps}
use Rattle.kept_items.specs.declared.target.Target.{Target}
use Rattle.kept_items.specs.declared.target.Target.TheVariants.{Base, Adaptive}
use Rattle.kept_items.specs.declared.val.Dyn.{Dyn}
use Rattle.kept_items.specs.declared.val.Val.{Val}
use Rattle.kept_items.specs.declared.val.Val.TheVariants.{Known, Dynamic}
use Rattle.residue.specs.Functions.{types_of}
use Rattle.residue.specs.Scopes.{item_uses}
use Rattle.residue.specs.Valid.{all_known, base_permits, caps_permit, first_known, has_count, is_base_record, is_int_record, is_constant_result, is_instruction, is_known, is_operation, item_allowed, item_compares, label_below, operation_known, output_known, recorded_type, takes_types}
use Rattle.static_steps.specs.Configurations.{Bounds, IsValue}
use Rattle.static_steps.specs.Operations.{or_cause, wrong_arg, wrong_args}
use Rattle.static_steps.specs.Results.{const_bit}
use Rattle.fused_parts.specs.Parts.{renamed, renamed_arg, renamed_item}
use Rattle.valid_steps.specs.Items.{AreOperands, IsItem, IsOperand, is_count, is_read, is_recorded, permits_record}
use Rattle.valid_lines.proofs.Names.{operation-named}

-- ---- truth of tests

pub true-or : (a b : Bool) → b ≡ true → (a || b) ≡ true
true-or true b e = refl
true-or false b e = e

pub or-true : (a b : Bool) → a ≡ true → (a || b) ≡ true
or-true true b e = refl
or-true false b e = cc

swapped : (c a b : Bool) → (c || (a && b)) ≡ true → (c || (b && a)) ≡ true
swapped true a b e = refl
swapped false true true e = refl
swapped false true false e = cc
swapped false false b e = cc

module _ (mine : List Dyn) where
  -- arguments keep their types
  pub types-kept : (args : List (Ty × Val)) → types_of (map (renamed_arg mine) args) ≡ types_of args
  types-kept [] = refl
  types-kept (a ∷ rest) = ap (λ l. a.0 ∷ l) (types-kept rest)

  pub uses-kept : (i : Item) (n : ℕ) → item_uses (renamed_item mine n i) ≡ map (renamed_arg mine) (item_uses i)
  uses-kept (item.Binary d o flags w a b) n = refl
  uses-kept (item.Icmp d o w a b) n = refl
  uses-kept (item.Convert d o w a to) n = refl
  uses-kept (item.Select d w c a b) n = refl
  uses-kept (item.Read d v) n = refl
  uses-kept (item.Equal d v u) n = refl
  uses-kept (item.Operation name args) n = refl
  uses-kept (item.Output c args) n = refl

  module _ (m : Module) (t : Target) (b : Bounds) (ts : List (Option Ty)) (held : List ℕ) where
    abbrev Is : Ty → Val → Type 0
    Is u a = IsOperand m t b ts u a

    -- ---- the first three rules

    pub allowed : (i : Item) (n : ℕ) → IsItem m t b ts held i → item_allowed (renamed_item mine n i) ≡ true
    allowed (item.Binary d o flags w x y) n h = h.2
    allowed (item.Convert d o w x to) n h = h.1
    allowed (item.Icmp d o w x y) n h = refl
    allowed (item.Select d w c x y) n h = refl
    allowed (item.Read d v) n h = refl
    allowed (item.Equal d v u) n h = refl
    allowed (item.Operation name args) n h = refl
    allowed (item.Output c args) n h = refl

    pub known-operation : (i : Item) (n : ℕ) → IsItem m t b ts held i → operation_known (renamed_item mine n i) ≡ true
    known-operation (item.Operation name args) n h =
        let same = ap (λ us. is_operation (class_of name (signature ty.Void us))) (types-kept args) in
        same ∙ ⊎_elim (λ e. ap is_operation e) (λ e. ap is_operation e) h.0
    known-operation (item.Binary d o flags w x y) n h = refl
    known-operation (item.Convert d o w x to) n h = refl
    known-operation (item.Icmp d o w x y) n h = refl
    known-operation (item.Select d w c x y) n h = refl
    known-operation (item.Read d v) n h = refl
    known-operation (item.Equal d v u) n h = refl
    known-operation (item.Output c args) n h = refl

    pub named : (i : Item) (n : ℕ) → IsItem m t b ts held i → is_instruction (renamed_item mine n i) ≡ true
    named (item.Operation name args) n h =
        ⊎_elim (λ e. operation-named name (signature ty.Void (types_of args)) class.Gate refl e) (λ e. operation-named name (signature ty.Void (types_of args)) class.Measure refl e) h.0
    named (item.Binary d o flags w x y) n h = refl
    named (item.Convert d o w x to) n h = refl
    named (item.Icmp d o w x y) n h = refl
    named (item.Select d w c x y) n h = refl
    named (item.Read d v) n h = refl
    named (item.Equal d v u) n h = refl
    named (item.Output c args) n h = refl

    takes : (c : Class) (us : List Ty) → HasTypes c ty.Void us → permits_record t c ≡ true → takes_types (recorded_type c) us ≡ true
    takes class.Tuple us h e = ap (takes_types (recorded_type class.Tuple)) h.1
    takes class.Array us h e = ap (takes_types (recorded_type class.Array)) h.1
    takes class.ResRecord us h e = ap (takes_types (recorded_type class.ResRecord)) h.1
    takes class.BoolRecord us h e = ap (takes_types (recorded_type class.BoolRecord)) h.1
    takes class.IntRecord us h e = ap (takes_types (recorded_type class.IntRecord)) h.1
    takes class.DoubleRecord us h e = ap (takes_types (recorded_type class.DoubleRecord)) h.1
    takes c us h e = cc

    pub known-output : (i : Item) (n : ℕ) → IsItem m t b ts held i → output_known (renamed_item mine n i) ≡ true
    known-output (item.Output c args) n h = ap (takes_types (recorded_type c)) (types-kept args) ∙ takes c (types_of args) h.0 h.2
    known-output (item.Binary d o flags w x y) n h = refl
    known-output (item.Convert d o w x to) n h = refl
    known-output (item.Icmp d o w x y) n h = refl
    known-output (item.Select d w c x y) n h = refl
    known-output (item.Read d v) n h = refl
    known-output (item.Equal d v u) n h = refl
    known-output (item.Operation name args) n h = refl

    -- ---- labels

    pub uses-fit : (i : Item) → IsItem m t b ts held i → AreOperands m t b ts (item_uses i)
    uses-fit (item.Binary d o flags w x y) h = (h.4, (h.5, tt))
    uses-fit (item.Icmp d o w x y) h = (h.3, (h.4, tt))
    uses-fit (item.Convert d o w x to) h = (h.3, tt)
    uses-fit (item.Select d w c x y) h = (h.3, (h.4, (h.5, tt)))
    uses-fit (item.Read d v) h = (h.3, tt)
    uses-fit (item.Equal d v u) h = (h.2, (h.3, tt))
    uses-fit (item.Operation name args) h = h.1
    uses-fit (item.Output c args) h = h.1

    label-value : (u : Ty) (v : Value) → IsValue m b u v → label_below (length m.globals) (Known v) ≡ true
    label-value ty.Text (value.Label g) h = lt-ltb g.0 (length m.globals) h
    label-value u (value.Label g) h = absurd h
    label-value u v h = refl

    label-fits : (u : Ty) (a : Val) → Is u a → label_below (length m.globals) (renamed mine a) ≡ true
    label-fits u (Known v) h = label-value u v h
    label-fits u (Dynamic d) h = refl

    labels-fit : (args : List (Ty × Val)) → AreOperands m t b ts args → list_all (λ (a : Ty × Val). label_below (length m.globals) a.1) (map (renamed_arg mine) args) ≡ true
    labels-fit [] h = refl
    labels-fit (a ∷ rest) h =
        and_from (label_below (length m.globals) (renamed mine a.1)) (list_all (λ (a : Ty × Val). label_below (length m.globals) a.1) (map (renamed_arg mine) rest)) (label-fits a.0 a.1 h.0) (labels-fit rest h.1)

    pub item-labels : (i : Item) (n : ℕ) → IsItem m t b ts held i → list_all (λ (a : Ty × Val). label_below (length m.globals) a.1) (item_uses (renamed_item mine n i)) ≡ true
    item-labels i n h = ap (list_all (λ (a : Ty × Val). label_below (length m.globals) a.1)) (uses-kept i n) ∙ labels-fit (item_uses i) (uses-fit i h)

    -- ---- one and zero

    abbrev constant_in : List (Ty × Val) → Bool
    constant_in args = list_any (λ (a : Ty × Val). is_constant_result a.1) args

    -- a value of another type than a result
    abbrev IsNoResult : Ty → Type 0
    IsNoResult ty.Res = ⊥
    IsNoResult u = ⊤

    no-constant : (u : Ty) (a : Val) → IsNoResult u → Is u a → is_constant_result (renamed mine a) ≡ false
    no-constant u (Dynamic d) r h = refl
    no-constant ty.Res (Known v) r h = absurd r
    no-constant u (Known value.One) r h = absurd h
    no-constant u (Known value.Zero) r h = absurd h
    no-constant u (Known v) r h = refl

    no-const-bit : (v : Value) → const_bit v ≡ None → is_constant_result (Known v) ≡ false
    no-const-bit value.One e = cc
    no-const-bit value.Zero e = cc
    no-const-bit v e = refl

    read-constant : (a : Val) → is_read a ≡ true → is_constant_result (renamed mine a) ≡ false
    read-constant (Known value.One) e = cc
    read-constant (Known value.Zero) e = cc
    read-constant (Known v) e = refl
    read-constant (Dynamic d) e = refl

    issued-constant : (u : Ty) (a : Val) → Is u a → wrong_arg held u a ≡ None → is_constant_result (renamed mine a) ≡ false
    issued-constant u (Dynamic d) h e = refl
    issued-constant ty.Res (Known value.One) h e = cc
    issued-constant ty.Res (Known value.Zero) h e = cc
    issued-constant u (Known value.One) h e = absurd h
    issued-constant u (Known value.Zero) h e = absurd h
    issued-constant u (Known v) h e = refl

    none-wrong : (o q : Option Cause) → or_cause o q ≡ None → (o ≡ None) × (q ≡ None)
    none-wrong None q e = (refl, e)
    none-wrong (Some c) q e = cc

    issued-constants : (args : List (Ty × Val)) → AreOperands m t b ts args → wrong_args held args ≡ None → constant_in (map (renamed_arg mine) args) ≡ false
    issued-constants [] h e = refl
    issued-constants (a ∷ rest) h e =
        let q = none-wrong (wrong_arg held a.0 a.1) (wrong_args held rest) e in
        or_from (is_constant_result (renamed mine a.1)) (constant_in (map (renamed_arg mine) rest)) (issued-constant a.0 a.1 h.0 q.0) (issued-constants rest h.1 q.1)

    abbrev AllPlain : List Ty → Type 0
    AllPlain [] = ⊤
    AllPlain (u ∷ us) = IsNoResult u × AllPlain us

    plain-constants : (args : List (Ty × Val)) → AllPlain (types_of args) → AreOperands m t b ts args → constant_in (map (renamed_arg mine) args) ≡ false
    plain-constants [] r h = refl
    plain-constants (a ∷ rest) r h =
        or_from (is_constant_result (renamed mine a.1)) (constant_in (map (renamed_arg mine) rest)) (no-constant a.0 a.1 r.0 h.0) (plain-constants rest r.1 h.1)

    behind : (u w : Ty) (us ws : List Ty) → (u ∷ us) ≡ w ∷ ws → us ≡ ws
    behind u w us ws e = cc

    -- a result and its label
    result-constants : (args : List (Ty × Val)) → types_of args ≡ ty.Res ∷ ty.Text ∷ [] → is_recorded class.ResRecord args ≡ true → AreOperands m t b ts args → constant_in (map (renamed_arg mine) args) ≡ false
    result-constants [] e k h = refl
    result-constants (a ∷ rest) e k h =
        or_from (is_constant_result (renamed mine a.1)) (constant_in (map (renamed_arg mine) rest)) (read-constant a.1 k)
        (plain-constants rest (subst AllPlain (sym (behind a.0 ty.Res (types_of rest) (ty.Text ∷ []) e)) (tt, tt)) h.1)

    record-constants : (c : Class) (args : List (Ty × Val)) → HasTypes c ty.Void (types_of args) → permits_record t c ≡ true → is_recorded c args ≡ true → AreOperands m t b ts args → constant_in (map (renamed_arg mine) args) ≡ false
    record-constants class.ResRecord args h e k f = result-constants args h.1 k f
    record-constants class.Tuple args h e k f = plain-constants args (subst AllPlain (sym h.1) (tt, (tt, tt))) f
    record-constants class.Array args h e k f = plain-constants args (subst AllPlain (sym h.1) (tt, (tt, tt))) f
    record-constants class.BoolRecord args h e k f = plain-constants args (subst AllPlain (sym h.1) (tt, (tt, tt))) f
    record-constants class.IntRecord args h e k f = plain-constants args (subst AllPlain (sym h.1) (tt, (tt, tt))) f
    record-constants class.DoubleRecord args h e k f = plain-constants args (subst AllPlain (sym h.1) (tt, (tt, tt))) f
    record-constants c args h e k f = cc

    -- the constants among what an item uses
    uses-constants : (i : Item) → IsItem m t b ts held i → AllPlain (types_of (item_uses i)) → constant_in (map (renamed_arg mine) (item_uses i)) ≡ false
    uses-constants i h r = plain-constants (item_uses i) r (uses-fit i h)

    pub compared : (i : Item) (n : ℕ) → IsItem m t b ts held i → item_compares (renamed_item mine n i) ≡ true
    compared (item.Binary d o flags w x y) n h = ap not (uses-constants (item.Binary d o flags w x y) h (tt, (tt, tt)))
    compared (item.Icmp d o w x y) n h = ap not (uses-constants (item.Icmp d o w x y) h (tt, (tt, tt)))
    compared (item.Convert d o w x to) n h = ap not (uses-constants (item.Convert d o w x to) h (tt, tt))
    compared (item.Select d w c x y) n h = ap not (uses-constants (item.Select d w c x y) h (tt, (tt, (tt, tt))))
    compared (item.Read d v) n h = ap not (or_from (is_constant_result (Known v)) false (no-const-bit v h.2) refl)
    compared (item.Equal d v u) n h = refl
    compared (item.Operation name args) n h = ap not (issued-constants args h.1 h.2)
    compared (item.Output c args) n h = ap not (record-constants c args h.0 h.2 h.3 h.1)

  -- ---- what a target permits

  module _ (m : Module) (b : Bounds) (ts : List (Option Ty)) (held : List ℕ) where
    base-known : (u : Ty) (a : Val) → IsOperand m Base b ts u a → is_known (renamed mine a) ≡ true
    base-known u (Known v) h = refl
    base-known u (Dynamic d) h = absurd h.0

    all-known : (args : List (Ty × Val)) → AreOperands m Base b ts args → all_known (map (renamed_arg mine) args) ≡ true
    all-known [] h = refl
    all-known (a ∷ rest) h = and_from (is_known (renamed mine a.1)) (all_known (map (renamed_arg mine) rest)) (base-known a.0 a.1 h.0) (all-known rest h.1)

    base-record : (c : Class) → permits_record Base c ≡ true → is_base_record c ≡ true
    base-record class.Tuple e = refl
    base-record class.Array e = refl
    base-record class.ResRecord e = refl
    base-record c e = cc

    pub base-permitted : (i : Item) (n : ℕ) → IsItem m Base b ts held i → base_permits (renamed_item mine n i) ≡ true
    base-permitted (item.Operation name args) n h = all-known args h.1
    base-permitted (item.Output c args) n h = and_from (is_base_record c) (all_known (map (renamed_arg mine) args)) (base-record c h.2) (all-known args h.1)
    base-permitted (item.Binary d o flags w x y) n h = let e = h.1 in cc
    base-permitted (item.Icmp d o w x y) n h = let e = h.1 in cc
    base-permitted (item.Convert d o w x to) n h = let e = h.2 in cc
    base-permitted (item.Select d w c x y) n h = let e = h.1 in cc
    base-permitted (item.Read d v) n h = let e = h.1 in cc
    base-permitted (item.Equal d v u) n h = let e = h.1 in cc

    first-count : (a : Val) → is_count a ≡ true → is_known (renamed mine a) ≡ true
    first-count (Known v) e = refl
    first-count (Dynamic d) e = e

    counts-known : (c : Class) (args : List (Ty × Val)) → is_recorded c args ≡ true → (not (has_count c) || first_known (map (renamed_arg mine) args)) ≡ true
    counts-known class.Tuple [] e = refl
    counts-known class.Tuple (a ∷ rest) e = first-count a.1 e
    counts-known class.Array [] e = refl
    counts-known class.Array (a ∷ rest) e = first-count a.1 e
    counts-known c args e = refl

    ints-named : (caps : Caps) (c : Class) → permits_record (Adaptive caps) c ≡ true → (caps.ints || not (is_int_record c)) ≡ true
    ints-named caps class.IntRecord e = or-true caps.ints false e
    ints-named caps class.Tuple e = true-or caps.ints true refl
    ints-named caps class.Array e = true-or caps.ints true refl
    ints-named caps class.ResRecord e = true-or caps.ints true refl
    ints-named caps class.BoolRecord e = true-or caps.ints true refl
    ints-named caps class.DoubleRecord e = true-or caps.ints true refl
    ints-named caps c e = cc

    pub caps-permitted : (caps : Caps) (i : Item) (n : ℕ) → IsItem m (Adaptive caps) b ts held i → caps_permit caps (renamed_item mine n i) ≡ true
    caps-permitted caps (item.Binary d o flags w x y) n h = swapped caps.ints (is_bit w) (is_bitwise o) h.3
    caps-permitted caps (item.Icmp d o w x y) n h = h.2
    caps-permitted caps (item.Convert d o w x to) n h = or-true caps.ints false h.2
    caps-permitted caps (item.Select d w c x y) n h = h.2
    caps-permitted caps (item.Read d v) n h = true-or caps.ints true refl
    caps-permitted caps (item.Equal d v u) n h = true-or caps.ints true refl
    caps-permitted caps (item.Operation name args) n h = true-or caps.ints true refl
    caps-permitted caps (item.Output c args) n h =
        and_from (not (has_count c) || first_known (map (renamed_arg mine) args)) (caps.ints || not (is_int_record c)) (counts-known c args h.3) (ints-named caps c h.2)
