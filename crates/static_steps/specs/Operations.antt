-- Quantum operations (QIR specification, 'Quantum Instruction Set').
use Rattle.std.specs.Prelude.{ℕ, ◌+◌, Bool, true, false, not, if◌then◌else◌, Option, None, Some, List, [], ◌∷◌, ◌++◌, codes}
use Rattle.std.specs.List.{list_any}
use Rattle.ir_module.specs.declared.tree.Function.{Function}
use Rattle.ir_module.specs.Entry.{has_attribute}
use Rattle.ir_values.specs.declared.cause.Cause.{Cause}
use Rattle.ir_values.specs.declared.cause.Cause.TheVariants as cause
use Rattle.ir_values.specs.declared.class.Class.{Class}
use Rattle.ir_values.specs.declared.class.Class.TheVariants as class
use Rattle.ir_values.specs.declared.ids.LocalId.{LocalId}
use Rattle.ir_values.specs.declared.ty.Ty.{Ty}
use Rattle.ir_values.specs.declared.ty.Ty.TheVariants as ty
use Rattle.ir_values.specs.declared.value.Value.TheVariants as value
use Rattle.ir_values.specs.Calls.{qis}
use Rattle.kept_items.specs.declared.item.Item.TheVariants.{Operation}
use Rattle.kept_items.specs.declared.target.Kind.TheVariants as kind
use Rattle.kept_items.specs.declared.val.Val.{Val}
use Rattle.kept_items.specs.declared.val.Val.TheVariants.{Known}
use Rattle.kept_items.specs.Targets.{is_base}
use Rattle.static_steps.specs.declared.phase.Phase.{Phase}
use Rattle.static_steps.specs.declared.phase.Phase.TheVariants as phase
use Rattle.static_steps.specs.declared.turn.Turn.{Turn}
use Rattle.static_steps.specs.declared.turn.Turn.TheVariants.{Bad, Lost}
use Rattle.static_steps.specs.Results.{held_in}
use Rattle.static_steps.specs.Settings.{Setting, bound, kept, passed}

-- why an operation may not be issued with this argument: a qubit that was allocated must be held, and no measurement writes into a
-- constant result
abbrev pub wrong_arg : List ℕ → Ty → Val → Option Cause
wrong_arg held ty.Qubit (Known (value.Alloc j)) = if held_in held j then None else Some cause.Released
wrong_arg held ty.Res (Known value.One) = Some cause.ConstResult
wrong_arg held ty.Res (Known value.Zero) = Some cause.ConstResult
wrong_arg held t v = None

abbrev pub or_cause : Option Cause → Option Cause → Option Cause
or_cause None o = o
or_cause (Some c) o = Some c

-- the first cause from left to right
abbrev pub wrong_args : List ℕ → List (Ty × Val) → Option Cause
wrong_args held [] = None
wrong_args held (a ∷ rest) = or_cause (wrong_arg held a.0 a.1) (wrong_args held rest)

abbrev pub one_more_arg : Ty → Val → Option (List (Ty × Val)) → Option (List (Ty × Val))
one_more_arg t v None = None
one_more_arg t v (Some rest) = Some ((t, v) ∷ rest)

-- values with their types
abbrev pub typed_args : List Ty → List Val → Option (List (Ty × Val))
typed_args [] [] = Some []
typed_args (t ∷ ts) (v ∷ vs) = one_more_arg t v (typed_args ts vs)
typed_args ts vs = None

abbrev pub is_res : Ty → Bool
is_res ty.Res = true
is_res other = false

-- whether an operation is a measurement
abbrev pub measures : List (Ty × Val) → Bool
measures args = list_any (λ a. is_res a.0) args

abbrev pub same_truth : Bool → Bool → Bool
same_truth true b = b
same_truth false b = not b

-- a measurement, and what is declared so
abbrev pub is_irreversible : Function → Class → Bool
is_irreversible f class.Measure = true
is_irreversible f class.Returning = true
is_irreversible f other = has_attribute (codes "irreversible") f.attrs

-- the phase after a reversible operation, where it may stand in this one
abbrev pub after_reversible : Phase → Option Phase
after_reversible phase.Begin = Some phase.Reversible
after_reversible phase.Reversible = Some phase.Reversible
after_reversible phase.Irreversible = None
after_reversible phase.Output = None

abbrev pub after_irreversible : Phase → Option Phase
after_irreversible phase.Begin = Some phase.Irreversible
after_irreversible phase.Reversible = Some phase.Irreversible
after_irreversible phase.Irreversible = Some phase.Irreversible
after_irreversible phase.Output = None

module _ (s : Setting) where
  -- only the Base Profile has an order (QIR specification, 'Base Profile')
  abbrev pub phase_after : Bool → Option Phase
  phase_after irreversible =
      if is_base s.t
      then (if irreversible then after_irreversible s.w.phase else after_reversible s.w.phase)
      else Some s.w.phase

  abbrev pub issues_in : Option Phase → List ℕ → List (Ty × Val) → Turn
  issues_in None name args = Bad kind.Phase
  issues_in (Some ph) name args = kept s (Operation name args) (record (passed s) { phase = ph })

  abbrev pub issues : Option Cause → Bool → List ℕ → List (Ty × Val) → Turn
  issues (Some why) irreversible name args = Bad (kind.Traps why)
  issues None irreversible name args = issues_in (phase_after irreversible) name args

  abbrev pub operates_on : List ℕ → Bool → List (Ty × Val) → Turn
  operates_on name irreversible args = issues (wrong_args s.w.held args) irreversible name args

  -- a gate, or a measurement into a result that is given
  abbrev pub operates : List ℕ → Bool → Bool → Option (List (Ty × Val)) → Turn
  operates name measurement irreversible None = Lost
  operates name measurement irreversible (Some args) =
      if same_truth measurement (measures args) then operates_on name irreversible args else Lost

  -- a measurement that returns a result: it is issued as `mz` into the next returned result
  module _ (x : Option LocalId) where
    abbrev pub returns_in : Option Phase → List (Ty × Val) → Turn
    returns_in None args = Bad kind.Phase
    returns_in (Some ph) args =
        kept s
        (Operation (qis (codes "mz__body")) (args ++ (ty.Res, Known (value.Measured s.w.returned)) ∷ []))
        (record (bound s x (Known (value.Measured s.w.returned))) { returned = s.w.returned + 1; phase = ph })

    abbrev pub returning_on : Option Cause → List (Ty × Val) → Turn
    returning_on (Some why) args = Bad (kind.Traps why)
    returning_on None args = returns_in (phase_after true) args

    abbrev pub returning_turn : Option (List (Ty × Val)) → Turn
    returning_turn None = Lost
    returning_turn (Some args) = if measures args then Lost else returning_on (wrong_args s.w.held args) args
