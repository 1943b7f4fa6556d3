-- The static step: what the instruction at a configuration does by the values that are known, with one case for each kind of
-- instruction in the order of what it does in a run.
use Rattle.std.specs.Prelude.{Bool, Option, None, Some, List, [], ◌∷◌, map, slice_get}
use Rattle.ir_module.specs.declared.places.Point.{Point}
use Rattle.ir_module.specs.declared.tree.InstKind.{InstKind}
use Rattle.ir_module.specs.declared.tree.InstKind.TheVariants as inst
use Rattle.ir_module.specs.declared.tree.Module.{Module}
use Rattle.ir_module.specs.declared.tree.Term.{Term}
use Rattle.ir_module.specs.declared.tree.Term.TheVariants as term
use Rattle.ir_module.specs.Operands.{operands_of}
use Rattle.ir_module.specs.Steps.{Step, PhiAt, InstAt, TermAt, NoStep, step_in_module}
use Rattle.ir_values.specs.declared.cause.Cause.TheVariants as cause
use Rattle.ir_values.specs.declared.ids.FuncId.{FuncId}
use Rattle.ir_values.specs.declared.ids.LocalId.{LocalId}
use Rattle.ir_values.specs.declared.ty.Ty.TheVariants as ty
use Rattle.ir_values.specs.declared.value.Value.TheVariants as value
use Rattle.qir_meaning.specs.Moves.{first_point}
use Rattle.kept_items.specs.declared.item.Choice.TheVariants.{One}
use Rattle.kept_items.specs.declared.target.Kind.TheVariants as kind
use Rattle.kept_items.specs.declared.target.Target.{Target}
use Rattle.kept_items.specs.declared.val.Val.{Val}
use Rattle.kept_items.specs.declared.val.Val.TheVariants.{Known}
use Rattle.static_steps.specs.declared.config.Config.{Config}
use Rattle.static_steps.specs.declared.phase.Phase.TheVariants as phase
use Rattle.static_steps.specs.declared.turn.Turn.{Turn}
use Rattle.static_steps.specs.declared.turn.Turn.TheVariants.{Bad, Lost}
use Rattle.static_steps.specs.Calls.{calls_turn}
use Rattle.static_steps.specs.Edges.{branch_turn, edges_to, switch_turn}
use Rattle.static_steps.specs.Integers.{binary_turn, convert_turn, icmp_turn, select_turn}
use Rattle.static_steps.specs.Returns.{back_turn}
use Rattle.static_steps.specs.Settings.{Setting}
use Rattle.static_steps.specs.Values.{val_of, vals_of}
use Rattle.static_steps.specs.Works.{dynamics_of, opened}

-- where an operand has no value the instruction traps, before all else
abbrev pub with_vals : Option (List Val) → (List Val → Turn) → Turn
with_vals None go = Bad (kind.Traps cause.Unbound)
with_vals (Some vs) go = go vs

abbrev pub with_val : Option Val → (Val → Turn) → Turn
with_val None go = Bad (kind.Traps cause.Unbound)
with_val (Some v) go = go v

module _ (s : Setting) where
  -- an instruction whose result is named x, by the values of its operands
  abbrev pub inst_turn : Option LocalId → InstKind → List Val → Turn
  inst_turn x (inst.Binary o flags (ty.Int wd) a b) (u ∷ v ∷ []) = binary_turn s x o flags wd u v
  inst_turn x (inst.Icmp o (ty.Int wd) a b) (u ∷ v ∷ []) = icmp_turn s x o wd u v
  inst_turn x (inst.Convert o (ty.Int wd) a (ty.Int to)) (u ∷ []) = convert_turn s x o wd u to
  inst_turn x (inst.Select c t' a u b) (p ∷ q ∷ r ∷ []) = select_turn s x t' p q r
  inst_turn x (inst.Call ret f args) (Known (value.Func g) ∷ vs) =
      calls_turn s x g (slice_get s.m.funcs g.0) (map (λ a. a.0) args) vs
  inst_turn x what vs = Lost

  abbrev pub term_turn : Term → Turn
  term_turn term.RetVoid = back_turn s s.w.below None
  term_turn (term.Ret ty a) = with_val (val_of s.w.top.names a) (λ v. back_turn s s.w.below (Some v))
  term_turn (term.Br b) = edges_to s (b ∷ []) One
  term_turn (term.CondBr c b d) = with_val (val_of s.w.top.names c) (λ v. branch_turn s v b d)
  term_turn (term.Switch (ty.Int wd) a b cases) = with_val (val_of s.w.top.names a) (λ v. switch_turn s wd v b cases)
  term_turn (term.Switch other a b cases) = Lost

  abbrev pub step_turn : Step → Turn
  step_turn (PhiAt phi) = Lost
  step_turn (InstAt i) = with_vals (vals_of s.w.top.names (operands_of i.what)) (inst_turn i.result i.what)
  step_turn (TermAt e) = term_turn e
  step_turn NoStep = Lost

-- what a step of this configuration looks at
abbrev pub setting_of : Module → Target → (Point → LocalId → Bool) → Config → Setting
setting_of m t live g = record { m = m; t = t; live = live; w = opened g; fresh = record { 0 = dynamics_of g } }

-- the static step of a module for a target, by the names that are live at each point
unfoldable pub static_step : Module → Target → (Point → LocalId → Bool) → Config → Turn
static_step m t live g = step_turn (setting_of m t live g) (step_in_module m g.top.at)

-- constant evaluation starts at the first point of the entry, with no name, no allocation and no result
abbrev pub start_of : FuncId → Config
start_of entry = record {
  top = record { at = first_point entry; names = [] };
  below = [];
  allocated = 0;
  held = [];
  returned = 0;
  phase = phase.Begin;
}
