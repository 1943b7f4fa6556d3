-- The step of a call, of what is neither an instruction nor a terminator, and the whole step.
use Rattle.std.proofs.Common.{◌≡◌, Bool, Option, None, Some, List, ◌∷◌, map, refl}
use Rattle.ir_module.specs.declared.tree.Callee.{Callee}
use Rattle.ir_module.specs.declared.tree.InstKind.TheVariants as kind
use Rattle.ir_module.specs.declared.tree.Operand.{Operand}
use Rattle.ir_module.specs.Operands.{callee_operand}
use Rattle.ir_module.specs.declared.places.Point.{Point}
use Rattle.ir_module.specs.declared.tree.Module.{Module}
use Rattle.ir_module.specs.Steps.{Step, PhiAt, InstAt, TermAt, NoStep, step_in_module}
use Rattle.ir_values.specs.declared.cause.Cause.TheVariants as cause
use Rattle.ir_values.specs.declared.ids.LocalId.{LocalId}
use Rattle.ir_values.specs.declared.ty.Ty.{Ty}
use Rattle.ir_values.specs.declared.value.Value.TheVariants as value
use Rattle.kept_items.specs.declared.target.Kind.TheVariants as why
use Rattle.kept_items.specs.declared.val.Val.{Val}
use Rattle.kept_items.specs.declared.val.Val.TheVariants.{Known, Dynamic}
use Rattle.kept_items.specs.declared.target.Target.{Target}
use Rattle.static_steps.specs.declared.config.Config.{Config}
use Rattle.static_steps.specs.declared.turn.Turn.TheVariants.{Bad, Lost}
use Rattle.static_steps.specs.Settings.{Setting}
use Rattle.static_steps.specs.Steps.{inst_turn, setting_of, static_step, step_turn, with_vals}
use Rattle.static_steps.specs.Values.{one_val, val_of, vals_of}
use Rattle.step_parts.specs.code.Standing.{IsNeither}
use Rattle.inliner.specs.code.Instructions.{call_of, inst_of}

pub neither_lost : (s : Setting) (at : Step) → IsNeither at → step_turn s at ≡ Lost
neither_lost s (PhiAt phi) h = refl
neither_lost s NoStep h = refl
neither_lost s (InstAt i) h = absurd h
neither_lost s (TermAt t) h = absurd h

module _ (s : Setting) (x : Option LocalId) (ret : Ty) (c : Callee) (args : List (Ty × Operand)) where
  by-callee : (f : Val) (vs : List Val) → inst_turn s x (kind.Call ret c args) (f ∷ vs) ≡ call_of s x f (map (λ a. a.0) args) vs
  by-callee (Known (value.Func g)) vs = refl
  by-callee (Known v) vs = refl
  by-callee (Dynamic d) vs = refl

  pub call_is : (f : Val) (vs : List Val) → val_of s.w.top.names (callee_operand c) ≡ Some f → vals_of s.w.top.names (map (λ a. a.1) args) ≡ Some vs
      → inst_of s x (kind.Call ret c args) ≡ call_of s x f (map (λ a. a.0) args) vs
  call_is f vs e h = rw (e, h) (by-callee f vs)

  pub no_callee : val_of s.w.top.names (callee_operand c) ≡ None → inst_of s x (kind.Call ret c args) ≡ Bad (why.Traps cause.Unbound)
  no_callee e = rw e refl

  without : (o : Option Val) → with_vals (one_val o None) (inst_turn s x (kind.Call ret c args)) ≡ Bad (why.Traps cause.Unbound)
  without None = refl
  without (Some v) = refl

  pub no_argument : vals_of s.w.top.names (map (λ a. a.1) args) ≡ None → inst_of s x (kind.Call ret c args) ≡ Bad (why.Traps cause.Unbound)
  no_argument h = rw h (without (val_of s.w.top.names (callee_operand c)))

pub whole : (s : Setting) (m : Module) (t : Target) (live : Point → LocalId → Bool) (g : Config) → s ≡ setting_of m t live g
    → step_turn s (step_in_module s.m s.w.top.at) ≡ static_step m t live g
unfolding static_step
whole s m t live g e = rw e refl
