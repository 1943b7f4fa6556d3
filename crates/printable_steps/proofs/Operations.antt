-- Operations and records.
use Rattle.std.proofs.Common.{◌≡◌, ℕ, ◌+◌, Bool, true, ◌&&◌, Option, None, Some, List, [], ◌∷◌, ◌++◌, refl, ap, ◌∙◌}
use Rattle.std.proofs.lemmas.Bool.{and_from, and_parts}
use Rattle.std.proofs.lemmas.List.Folds.{list_all-append}
use Rattle.std.specs.List.{list_all}
use Rattle.std.specs.Prelude.{codes, if◌then◌else◌}
use Rattle.ir_module.specs.Printable.{are_bytes}
use Rattle.ir_values.specs.declared.cause.Cause.{Cause}
use Rattle.ir_values.specs.declared.class.Class.{Class}
use Rattle.ir_values.specs.declared.class.Class.TheVariants as class
use Rattle.ir_values.specs.declared.ids.LocalId.{LocalId}
use Rattle.ir_values.specs.declared.ty.Ty.{Ty}
use Rattle.ir_values.specs.declared.ty.Ty.TheVariants as ty
use Rattle.ir_values.specs.declared.value.Value.TheVariants as value
use Rattle.ir_values.specs.Calls.{qis}
use Rattle.kept_items.specs.declared.item.Item.TheVariants as item
use Rattle.kept_items.specs.declared.target.Kind.TheVariants as kind
use Rattle.kept_items.specs.declared.val.Val.{Val}
use Rattle.kept_items.specs.declared.val.Val.TheVariants.{Known, Dynamic}
use Rattle.kept_items.specs.Targets.{has_ints, is_base}
use Rattle.static_steps.specs.declared.phase.Phase.{Phase}
use Rattle.static_steps.specs.declared.phase.Phase.TheVariants as phase
use Rattle.static_steps.specs.declared.turn.Turn.TheVariants.{Bad, Lost}
use Rattle.static_steps.specs.Operations.{issues, issues_in, measures, one_more_arg, operates, operates_on, phase_after, returning_on, returning_turn, returns_in, same_truth, typed_args, wrong_args}
use Rattle.static_steps.specs.Records.{count_output, int_output, outputs, result_output, value_output}
use Rattle.static_steps.specs.Settings.{Setting, bound, passed}
use Rattle.printable_values.specs.Values.{val_prints}
use Rattle.printable_steps.specs.Turns.{turn_prints}
use Rattle.printable_steps.proofs.Names.{work_prints}
use Rattle.printable_steps.proofs.Turns.{bound-prints, either-prints, kept-prints}

-- ---- arguments

abbrev pub args_print : List (Ty × Val) → Bool
args_print args = list_all (λ (a : Ty × Val). val_prints a.1) args

abbrev pub some_args_print : Option (List (Ty × Val)) → Bool
some_args_print None = true
some_args_print (Some args) = args_print args

pub typed-print : (us : List Ty) (vs : List Val) → list_all val_prints vs ≡ true → some_args_print (typed_args us vs) ≡ true
typed-print [] [] h = refl
typed-print [] (v ∷ vs) h = refl
typed-print (u ∷ us) [] h = refl
typed-print (u ∷ us) (v ∷ vs) h =
    let p = and_parts (val_prints v) (list_all val_prints vs) h in by (typed_args us vs) p.0 (typed-print us vs p.1)
  where
    by : (o : Option (List (Ty × Val))) → val_prints v ≡ true → some_args_print o ≡ true → some_args_print (one_more_arg u v o) ≡ true
    by None i k = refl
    by (Some rest) i k = and_from (val_prints v) (args_print rest) i k

module _ (s : Setting) (now : work_prints s.w ≡ true) where
  -- ---- operations

  module _ (name : List ℕ) (named : are_bytes name ≡ true) where
    issued-print : (o : Option Phase) (args : List (Ty × Val)) → args_print args ≡ true → turn_prints (issues_in s o name args) ≡ true
    issued-print None args h = refl
    issued-print (Some ph) args h = kept-prints s (item.Operation name args) (record (passed s) { phase = ph }) (and_from (are_bytes name) (args_print args) named h) now

    issues-print : (o : Option Cause) (irreversible : Bool) (args : List (Ty × Val)) → args_print args ≡ true → turn_prints (issues s o irreversible name args) ≡ true
    issues-print (Some why) irreversible args h = refl
    issues-print None irreversible args h = issued-print (phase_after s irreversible) args h

    pub operates-print : (measurement irreversible : Bool) (o : Option (List (Ty × Val))) → some_args_print o ≡ true → turn_prints (operates s name measurement irreversible o) ≡ true
    operates-print measurement irreversible None h = refl
    operates-print measurement irreversible (Some args) h =
        either-prints (same_truth measurement (measures args)) (operates_on s name irreversible args) Lost (issues-print (wrong_args s.w.held args) irreversible args h) refl

  -- a measurement that returns a result
  module _ (x : Option LocalId) where
    returned-prints : (o : Option Phase) (args : List (Ty × Val)) → args_print args ≡ true → turn_prints (returns_in s x o args) ≡ true
    returned-prints None args h = refl
    returned-prints (Some ph) args h =
        kept-prints s (item.Operation (qis (codes "mz__body")) (args ++ (ty.Res, Known (value.Measured s.w.returned)) ∷ []))
        (record (bound s x (Known (value.Measured s.w.returned))) { returned = s.w.returned + 1; phase = ph })
        (list_all-append (λ (a : Ty × Val). val_prints a.1) args ((ty.Res, Known (value.Measured s.w.returned)) ∷ []) ∙ ap (λ b. b && true) h)
        (bound-prints s now x (Known (value.Measured s.w.returned)) refl)

    returning-on : (o : Option Cause) (args : List (Ty × Val)) → args_print args ≡ true → turn_prints (returning_on s x o args) ≡ true
    returning-on (Some why) args h = refl
    returning-on None args h = returned-prints (phase_after s true) args h

    pub returning-prints : (o : Option (List (Ty × Val))) → some_args_print o ≡ true → turn_prints (returning_turn s x o) ≡ true
    returning-prints None h = refl
    returning-prints (Some args) h = either-prints (measures args) Lost (returning_on s x (wrong_args s.w.held args) args) refl (returning-on (wrong_args s.w.held args) args h)

  -- ---- records

  pub outputs-print : (c : Class) (o : Option (List (Ty × Val))) → some_args_print o ≡ true → turn_prints (outputs s c o) ≡ true
  outputs-print c None h = refl
  outputs-print c (Some args) h = kept-prints s (item.Output c args) (record (passed s) { phase = if is_base s.t then phase.Output else s.w.phase }) h now

  pub count-prints : (c : Class) (us : List Ty) (vs : List Val) → list_all val_prints vs ≡ true → turn_prints (count_output s c us vs) ≡ true
  count-prints c us (Dynamic d ∷ vs) h = refl
  count-prints c us [] h = outputs-print c (typed_args us []) (typed-print us [] h)
  count-prints c us (Known v ∷ vs) h = outputs-print c (typed_args us (Known v ∷ vs)) (typed-print us (Known v ∷ vs) h)

  pub result-prints : (us : List Ty) (vs : List Val) → list_all val_prints vs ≡ true → turn_prints (result_output s us vs) ≡ true
  result-prints us (Known value.One ∷ vs) h = refl
  result-prints us (Known value.Zero ∷ vs) h = refl
  result-prints us vs h = outputs-print class.ResRecord (typed_args us vs) (typed-print us vs h)

  pub value-prints : (c : Class) (us : List Ty) (vs : List Val) → list_all val_prints vs ≡ true → turn_prints (value_output s c us vs) ≡ true
  value-prints c us vs h = either-prints (is_base s.t) (Bad kind.Forbidden) (outputs s c (typed_args us vs)) refl (outputs-print c (typed_args us vs) (typed-print us vs h))

  pub int-prints : (us : List Ty) (vs : List Val) → list_all val_prints vs ≡ true → turn_prints (int_output s us vs) ≡ true
  int-prints us vs h =
      either-prints (is_base s.t) (Bad kind.Forbidden) (if has_ints s.t then outputs s class.IntRecord (typed_args us vs) else Bad kind.Capability) refl
      (either-prints (has_ints s.t) (outputs s class.IntRecord (typed_args us vs)) (Bad kind.Capability) (outputs-print class.IntRecord (typed_args us vs) (typed-print us vs h)) refl)
