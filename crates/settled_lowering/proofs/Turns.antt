-- What constant evaluation does at a call of a declared function, by its class and its arguments.
use Rattle.std.proofs.Common.{◌≡◌, ℕ, Bool, true, false, not, Option, None, Some, List, [], ◌∷◌, map, refl, ap, ◌∙◌}
use Rattle.std.proofs.lemmas.Bool.{and_parts}
use Rattle.std.specs.List.{list_any}
use Rattle.std.specs.Prelude.{⊤, ◌||◌, if◌then◌else◌}
use Rattle.ir_module.specs.declared.tree.Callee.TheVariants as callee
use Rattle.ir_module.specs.declared.tree.InstKind.TheVariants as kind
use Rattle.ir_module.specs.declared.tree.Operand.{Operand}
use Rattle.ir_module.specs.Steps.{InstAt}
use Rattle.ir_values.specs.declared.class.Class.{Class}
use Rattle.ir_values.specs.declared.class.Class.TheVariants as class
use Rattle.ir_values.specs.declared.ids.FuncId.{FuncId}
use Rattle.ir_values.specs.declared.ids.LocalId.{LocalId}
use Rattle.ir_values.specs.declared.ty.Ty.{Ty}
use Rattle.ir_values.specs.declared.ty.Ty.TheVariants as ty
use Rattle.ir_values.specs.declared.value.Value.{Value}
use Rattle.ir_values.specs.declared.value.Value.TheVariants as value
use Rattle.ir_values.specs.ClassTypes.{is_result_type}
use Rattle.kept_items.specs.declared.val.Val.{Val}
use Rattle.kept_items.specs.declared.val.Val.TheVariants.{Known, Dynamic}
use Rattle.residue.specs.Instructions.{Words, named_value, operand_of, typed_operand}
use Rattle.residue.specs.Valid.{all_known, is_constant_result, is_known}
use Rattle.static_steps.specs.declared.turn.Turn.{Turn}
use Rattle.static_steps.specs.declared.turn.Turn.TheVariants.{Lost}
use Rattle.static_steps.specs.Calls.{body_turn, calls_turn, class_turn, declared_turn}
use Rattle.static_steps.specs.Operations.{is_irreversible, is_res, issues, measures, one_more_arg, operates, operates_on, or_cause, same_truth, typed_args, wrong_arg, wrong_args}
use Rattle.static_steps.specs.Settings.{Setting}
use Rattle.static_steps.specs.Steps.{inst_turn, step_turn, with_vals}
use Rattle.static_steps.specs.Values.{Names, one_val, val_of, vals_of}
use Rattle.printed_residue.proofs.Calls.{Declares, measures as has_result, op_class}

-- ---- the values of printed operands

abbrev pub or_none : Option Val → Val
or_none None = Known value.NoLabel
or_none (Some v) = v

module _ (ws : Words) (names : Names Val) where
  -- what is read where a value is printed
  abbrev pub read : Val → Val
  read a = or_none (val_of names (operand_of ws a))

  abbrev pub reads_of : List (Ty × Val) → List (Ty × Val)
  reads_of args = map (λ a. (a.0, read a.1)) args

  -- there is such a value
  abbrev pub IsRead : Val → Type 0
  IsRead a = val_of names (operand_of ws a) ≡ Some (read a)

  abbrev pub AreRead : List (Ty × Val) → Type 0
  AreRead [] = ⊤
  AreRead (a ∷ args) = IsRead a.1 × AreRead args

  pub known-read : (a : Val) → is_known a ≡ true → IsRead a
  known-read (Known v) h = refl
  known-read (Dynamic d) h = cc

  pub all-known-read : (args : List (Ty × Val)) → all_known args ≡ true → AreRead args
  all-known-read [] h = tt
  all-known-read (a ∷ args) h = let p = and_parts (is_known a.1) (all_known args) h in (known-read a.1 p.0, all-known-read args p.1)

  pub vals-read : (args : List (Ty × Val)) → AreRead args → vals_of names (map (λ a. a.1) (map (typed_operand ws) args)) ≡ Some (map (λ a. read a.1) args)
  vals-read [] h = refl
  vals-read (a ∷ args) h =
      ap (λ o. one_val o (vals_of names (map (λ a. a.1) (map (typed_operand ws) args)))) h.0
      ∙ ap (one_val (Some (read a.1))) (vals-read args h.1)

  pub args-typed : (args : List (Ty × Val)) → typed_args (map (λ a. a.0) (map (typed_operand ws) args)) (map (λ a. read a.1) args) ≡ Some (reads_of args)
  args-typed [] = refl
  args-typed (a ∷ args) = ap (one_more_arg a.0 (read a.1)) (args-typed args)

  result-type : (t : Ty) → is_res t ≡ is_result_type t
  result-type ty.Res = refl
  result-type ty.Void = refl
  result-type (ty.Int w) = refl
  result-type ty.Double = refl
  result-type ty.Qubit = refl
  result-type ty.Text = refl
  result-type (ty.Func us) = refl

  pub measures-same : (args : List (Ty × Val)) → measures (reads_of args) ≡ has_result args
  measures-same [] = refl
  measures-same (a ∷ args) = ap (λ b. b || measures (reads_of args)) (result-type a.0) ∙ ap (λ b. is_result_type a.0 || b) (measures-same args)

  -- ---- values that an operation may have

  -- no allocation and no constant result
  abbrev pub IsPlain : Val → Type 0
  IsPlain (Known (value.Alloc j)) = ⊥
  IsPlain (Known value.One) = ⊥
  IsPlain (Known value.Zero) = ⊥
  IsPlain v = ⊤

  wrong-plain : (held : List ℕ) (t : Ty) (v : Val) → IsPlain v → wrong_arg held t v ≡ None
  wrong-plain held ty.Qubit (Known (value.Alloc j)) h = absurd h
  wrong-plain held ty.Res (Known value.One) h = absurd h
  wrong-plain held ty.Res (Known value.Zero) h = absurd h
  wrong-plain held t v h = refl

  abbrev pub AllPlain : List (Ty × Val) → Type 0
  AllPlain [] = ⊤
  AllPlain (a ∷ args) = IsPlain (read a.1) × AllPlain args

  pub none-wrong : (held : List ℕ) (args : List (Ty × Val)) → AllPlain args → wrong_args held (reads_of args) ≡ None
  none-wrong held [] h = refl
  none-wrong held (a ∷ args) h =
      ap (λ o. or_cause o (wrong_args held (reads_of args))) (wrong-plain held a.0 (read a.1) h.0) ∙ none-wrong held args h.1

  value-plain : (v : Value) → is_constant_result (Known v) ≡ false → IsPlain (Known (named_value ws v))
  value-plain value.One h = cc
  value-plain value.Zero h = cc
  value-plain (value.Int i) h = tt
  value-plain (value.Double i) h = tt
  value-plain (value.Id i) h = tt
  value-plain (value.Alloc i) h = tt
  value-plain (value.Measured i) h = tt
  value-plain (value.Label g) h = tt
  value-plain value.NoLabel h = tt
  value-plain (value.Func f) h = tt

  pub known-plain : (a : Val) → is_known a ≡ true → is_constant_result a ≡ false → IsPlain (read a)
  known-plain (Known v) k h = value-plain v h
  known-plain (Dynamic d) k h = cc

  none-of-both : (a b : Bool) → not (a || b) ≡ true → (a ≡ false) × (not b ≡ true)
  none-of-both true b h = cc
  none-of-both false b h = (refl, h)

  pub all-known-plain : (args : List (Ty × Val)) → all_known args ≡ true → not (list_any (λ a. is_constant_result a.1) args) ≡ true → AllPlain args
  all-known-plain [] k h = tt
  all-known-plain (a ∷ args) k h =
      let p = and_parts (is_known a.1) (all_known args) k in
      let q = none-of-both (is_constant_result a.1) (list_any (λ a. is_constant_result a.1) args) h in
      (known-plain a.1 p.0 q.0, all-known-plain args p.1 q.1)

-- ---- calls

module _ (s : Setting) where
  pub called-turn : (x : Option LocalId) (ret : Ty) (g : FuncId) (args : List (Ty × Operand)) (name : List ℕ) (c : Class) (d : Declares s.m g name c) (vs : List Val) → vals_of s.w.top.names (map (λ a. a.1) args) ≡ Some vs
      → step_turn s (InstAt (record { result = x; what = kind.Call ret (callee.Func g) args })) ≡ class_turn s x d.function name c (map (λ a. a.0) args) vs
  called-turn x ret g args name c d vs h =
      let ts : List Ty = map (λ a. a.0) args in
      ap (λ o. with_vals (one_val (Some (Known (value.Func g))) o) (inst_turn s x (kind.Call ret (callee.Func g) args))) h
      ∙ ap (λ o. calls_turn s x g o ts vs) d.is
      ∙ ap (λ o. body_turn s x g d.function o ts vs) d.no_body
      ∙ ap (λ o. declared_turn s x d.function o ts vs) d.class
      ∙ ap (λ n. class_turn s x d.function n c ts vs) d.named

  module _ (ws : Words) (name : List ℕ) (args : List (Ty × Val)) where
    abbrev values : List (Ty × Val)
    values = reads_of ws s.w.top.names args

    abbrev issue : Bool → Turn
    issue irreversible = issues s None irreversible name values

    operated : (b : Bool) (irreversible : Bool) → has_result args ≡ b → AllPlain ws s.w.top.names args → operates s name b irreversible (typed_args (map (λ a. a.0) (map (typed_operand ws) args)) (map (λ a. read ws s.w.top.names a.1) args)) ≡ issue irreversible
    operated b irreversible e p =
        ap (operates s name b irreversible) (args-typed ws s.w.top.names args)
        ∙ ap (λ k. if same_truth b k then operates_on s name irreversible values else Lost) (measures-same ws s.w.top.names args ∙ e)
        ∙ same b
        ∙ ap (λ o. issues s o irreversible name values) (none-wrong ws s.w.top.names s.w.held args p)
      where
        same : (b : Bool) → (if same_truth b b then operates_on s name irreversible values else Lost) ≡ operates_on s name irreversible values
        same true = refl
        same false = refl

    -- an operation is issued in its phase
    pub operation-turn : (g : FuncId) (d : Declares s.m g name (op_class (has_result args))) → AreRead ws s.w.top.names args → AllPlain ws s.w.top.names args
        → step_turn s (InstAt (record { result = None; what = kind.Call ty.Void (callee.Func g) (map (typed_operand ws) args) })) ≡ issue (is_irreversible d.function (op_class (has_result args)))
    operation-turn g d h p =
        called-turn None ty.Void g (map (typed_operand ws) args) name (op_class (has_result args)) d (map (λ a. read ws s.w.top.names a.1) args) (vals-read ws s.w.top.names args h)
        ∙ by (has_result args) refl
      where
        by : (b : Bool) → has_result args ≡ b → class_turn s None d.function name (op_class b) (map (λ a. a.0) (map (typed_operand ws) args)) (map (λ a. read ws s.w.top.names a.1) args) ≡ issue (is_irreversible d.function (op_class b))
        by true e = operated true true e p
        by false e = operated false (is_irreversible d.function class.Gate) e p
