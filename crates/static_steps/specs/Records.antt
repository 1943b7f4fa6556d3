-- Output records (QIR specification, 'Output Recording').
use Rattle.std.specs.Prelude.{if◌then◌else◌, Option, None, Some, List, ◌∷◌}
use Rattle.ir_values.specs.declared.class.Class.{Class}
use Rattle.ir_values.specs.declared.class.Class.TheVariants as class
use Rattle.ir_values.specs.declared.ty.Ty.{Ty}
use Rattle.ir_values.specs.declared.value.Value.TheVariants as value
use Rattle.kept_items.specs.declared.item.Item.TheVariants.{Output}
use Rattle.kept_items.specs.declared.target.Kind.TheVariants as kind
use Rattle.kept_items.specs.declared.val.Val.{Val}
use Rattle.kept_items.specs.declared.val.Val.TheVariants.{Known, Dynamic}
use Rattle.kept_items.specs.Targets.{has_ints, is_base}
use Rattle.static_steps.specs.declared.phase.Phase.TheVariants as phase
use Rattle.static_steps.specs.declared.turn.Turn.{Turn}
use Rattle.static_steps.specs.declared.turn.Turn.TheVariants.{Bad, Lost}
use Rattle.static_steps.specs.Operations.{typed_args}
use Rattle.static_steps.specs.Settings.{Setting, kept, passed}

module _ (s : Setting) where
  -- a record is kept; no operation of the Base Profile follows it
  abbrev pub outputs : Class → Option (List (Ty × Val)) → Turn
  outputs c None = Lost
  outputs c (Some args) = kept s (Output c args) (record (passed s) { phase = if is_base s.t then phase.Output else s.w.phase })

  -- the number of a tuple or array is known
  abbrev pub count_output : Class → List Ty → List Val → Turn
  count_output c ts (Dynamic d ∷ vs) = Bad kind.Forbidden
  count_output c ts vs = outputs c (typed_args ts vs)

  -- no constant result is recorded
  abbrev pub result_output : List Ty → List Val → Turn
  result_output ts (Known value.One ∷ vs) = Bad kind.Forbidden
  result_output ts (Known value.Zero ∷ vs) = Bad kind.Forbidden
  result_output ts vs = outputs class.ResRecord (typed_args ts vs)

  -- booleans and doubles
  abbrev pub value_output : Class → List Ty → List Val → Turn
  value_output c ts vs = if is_base s.t then Bad kind.Forbidden else outputs c (typed_args ts vs)

  abbrev pub int_output : List Ty → List Val → Turn
  int_output ts vs =
      if is_base s.t
      then Bad kind.Forbidden
      else (if has_ints s.t then outputs class.IntRecord (typed_args ts vs) else Bad kind.Capability)
