-- Returns (LLVM Language Reference, 'ret Instruction').
use Rattle.std.specs.Prelude.{◌-◌, ◌==◌, ◌||◌, if◌then◌else◌, pos, Option, None, Some, List, [], ◌∷◌}
use Rattle.ir_module.specs.declared.places.Point.{Point}
use Rattle.ir_module.specs.declared.tree.Module.{Module}
use Rattle.ir_module.specs.Steps.{Step, PhiAt, InstAt, TermAt, NoStep, step_in_module}
use Rattle.ir_values.specs.declared.ids.LocalId.{LocalId}
use Rattle.ir_values.specs.declared.value.Value.{Value}
use Rattle.ir_values.specs.declared.value.Value.TheVariants as value
use Rattle.ir_values.specs.Int.{IntValue, signed}
use Rattle.kept_items.specs.declared.item.Code.TheVariants as code
use Rattle.kept_items.specs.declared.target.Kind.TheVariants as kind
use Rattle.kept_items.specs.declared.val.Dyn.{Dyn}
use Rattle.kept_items.specs.declared.val.Val.{Val}
use Rattle.kept_items.specs.declared.val.Val.TheVariants.{Known, Dynamic}
use Rattle.kept_items.specs.Targets.{has_returns}
use Rattle.static_steps.specs.declared.turn.Turn.{Turn}
use Rattle.static_steps.specs.declared.turn.Turn.TheVariants.{Exits, Bad, Lost}
use Rattle.static_steps.specs.declared.work.WorkFrame.{WorkFrame}
use Rattle.static_steps.specs.Settings.{Setting, goes}
use Rattle.static_steps.specs.Values.{put_result}

abbrev pub result_at : Step → Option (Option LocalId)
result_at (InstAt i) = Some i.result
result_at (PhiAt phi) = None
result_at (TermAt t) = None
result_at NoStep = None

-- the name of the call before a point, if it has one
abbrev pub call_result : Module → Point → Option (Option LocalId)
call_result m p = result_at (step_in_module m (record p { index = p.index - 1 }))

module _ (s : Setting) where
  -- to the frame that waits, where the call's name gets the value
  abbrev pub resumes : WorkFrame → List WorkFrame → Option (Option LocalId) → Option Val → Turn
  resumes f fs None a = Lost
  resumes f fs (Some x) (Some a) = goes s (record s.w { top = record { at = f.at; names = put_result x a f.names }; below = fs })
  resumes f fs (Some None) None = goes s (record s.w { top = f; below = fs })
  resumes f fs (Some (Some x)) None = Lost

  -- the entry returns: the code 0 needs no capability
  abbrev pub exits_int : IntValue → Turn
  exits_int i = if has_returns s.t || (i.bits == 0) then Exits (code.Known (signed i)) else Bad kind.Capability

  abbrev pub exits_known : Value → Turn
  exits_known (value.Int i) = exits_int i
  exits_known v = Lost

  abbrev pub exits_dynamic : Dyn → Turn
  exits_dynamic d = if has_returns s.t then Exits (code.Dynamic d) else Bad kind.Capability

  abbrev pub exits : Option Val → Turn
  exits None = Exits (code.Known (pos 0))
  exits (Some (Known v)) = exits_known v
  exits (Some (Dynamic d)) = exits_dynamic d

  abbrev pub back_turn : List WorkFrame → Option Val → Turn
  back_turn [] a = exits a
  back_turn (f ∷ fs) a = resumes f fs (call_result s.m f.at) a
