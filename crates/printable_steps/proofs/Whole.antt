-- The static step.
use Rattle.std.proofs.Common.{◌≡◌, Bool, true, ◌&&◌, Option, None, Some, List, [], ◌∷◌, map, refl}
use Rattle.std.proofs.lemmas.Bool.{and_parts}
use Rattle.std.specs.List.{list_all}
use Rattle.ir_module.specs.declared.places.Point.{Point}
use Rattle.ir_module.specs.declared.tree.InstKind.{InstKind}
use Rattle.ir_module.specs.declared.tree.InstKind.TheVariants as kind
use Rattle.ir_module.specs.declared.tree.Module.{Module}
use Rattle.ir_module.specs.declared.tree.Operand.{Operand}
use Rattle.ir_module.specs.declared.tree.Term.{Term}
use Rattle.ir_module.specs.declared.tree.Term.TheVariants as term
use Rattle.ir_module.specs.Operands.{operands_of}
use Rattle.ir_module.specs.Printable.{IsPrintable}
use Rattle.ir_module.specs.Steps.{Step, PhiAt, InstAt, TermAt, NoStep, step_in_module}
use Rattle.ir_values.specs.declared.ids.LocalId.{LocalId}
use Rattle.ir_values.specs.declared.ty.Ty.TheVariants as ty
use Rattle.ir_values.specs.declared.value.Value.TheVariants as value
use Rattle.kept_items.specs.declared.item.Choice.TheVariants.{One}
use Rattle.kept_items.specs.declared.target.Target.{Target}
use Rattle.kept_items.specs.declared.val.Val.{Val}
use Rattle.kept_items.specs.declared.val.Val.TheVariants.{Known}
use Rattle.static_steps.specs.declared.config.Config.{Config}
use Rattle.static_steps.specs.declared.turn.Turn.{Turn}
use Rattle.static_steps.specs.Edges.{branch_turn, switch_turn}
use Rattle.static_steps.specs.Returns.{back_turn}
use Rattle.static_steps.specs.Settings.{Setting}
use Rattle.static_steps.specs.Steps.{inst_turn, setting_of, static_step, step_turn, term_turn, with_val, with_vals}
use Rattle.static_steps.specs.Values.{val_of, vals_of}
use Rattle.printable_values.specs.Values.{val_prints}
use Rattle.printable_steps.specs.Turns.{config_prints, turn_prints}
use Rattle.printable_steps.proofs.Calls.{calls-turn}
use Rattle.printable_steps.proofs.Edges.{branch-turn, edges-print, switch-turn}
use Rattle.printable_steps.proofs.Integers.{binary-turn, convert-turn, icmp-turn, select-turn}
use Rattle.printable_steps.proofs.Names.{opened-prints, operand_prints, some_print, some_prints, val-prints, vals-print, work_prints}
use Rattle.printable_steps.proofs.Returns.{back-turn}
use Rattle.printable_steps.proofs.Sources.{cases_print, step-prints, step_prints}
use Rattle.printable_steps.proofs.Turns.{top-prints}

-- where an operand has no value the instruction traps
with-vals-prints : (o : Option (List Val)) (go : List Val → Turn) → some_print o ≡ true → ((vs : List Val) → list_all val_prints vs ≡ true → turn_prints (go vs) ≡ true) → turn_prints (with_vals o go) ≡ true
with-vals-prints None go h more = refl
with-vals-prints (Some vs) go h more = more vs h

with-val-prints : (o : Option Val) (go : Val → Turn) → some_prints o ≡ true → ((v : Val) → val_prints v ≡ true → turn_prints (go v) ≡ true) → turn_prints (with_val o go) ≡ true
with-val-prints None go h more = refl
with-val-prints (Some v) go h more = more v h

two-print : (u v : Val) → list_all val_prints (u ∷ v ∷ []) ≡ true → (val_prints u ≡ true) × (val_prints v ≡ true)
two-print u v h = let p = and_parts (val_prints u) (val_prints v && true) h in (p.0, (and_parts (val_prints v) true p.1).0)

module _ (s : Setting) (printable : IsPrintable s.m) (now : work_prints s.w ≡ true) where
  inst-prints : (x : Option LocalId) (what : InstKind) (vs : List Val) → list_all val_prints vs ≡ true → turn_prints (inst_turn s x what vs) ≡ true
  inst-prints x (kind.Binary o flags (ty.Int w) a b) (u ∷ v ∷ []) h = let p = two-print u v h in binary-turn s now x o flags w u v p.0 p.1
  inst-prints x (kind.Icmp o (ty.Int w) a b) (u ∷ v ∷ []) h = let p = two-print u v h in icmp-turn s now x o w u v p.0 p.1
  inst-prints x (kind.Convert o (ty.Int w) a (ty.Int to)) (u ∷ []) h = convert-turn s now x o w u to
  inst-prints x (kind.Select c t a u b) (p ∷ q ∷ r ∷ []) h = let k = two-print q r (and_parts (val_prints p) (list_all val_prints (q ∷ r ∷ [])) h).1 in select-turn s now x t p q r k.0 k.1
  inst-prints x (kind.Call ret f args) (Known (value.Func g) ∷ vs) h = calls-turn s printable now x g (map (λ a. a.0) args) vs h
  inst-prints x what vs h = refl

  -- the value that a terminator reads
  read-prints : (a : Operand) → (operand_prints a && true) ≡ true → some_prints (val_of s.w.top.names a) ≡ true
  read-prints a h = val-prints s.w.top.names a (top-prints s now) (and_parts (operand_prints a) true h).0

  term-prints : (t : Term) → step_prints (TermAt t) ≡ true → turn_prints (term_turn s t) ≡ true
  term-prints term.RetVoid h = back-turn s now None refl
  term-prints (term.Ret u a) h = with-val-prints (val_of s.w.top.names a) (λ v. back_turn s s.w.below (Some v)) (read-prints a (and_parts (operand_prints a && true) true h).0) (λ v g. back-turn s now (Some v) g)
  term-prints (term.Br b) h = edges-print s printable now (b ∷ []) One refl
  term-prints (term.CondBr c b d) h = with-val-prints (val_of s.w.top.names c) (λ v. branch_turn s v b d) (read-prints c (and_parts (operand_prints c && true) true h).0) (λ v g. branch-turn s printable now v b d)
  term-prints (term.Switch (ty.Int w) a b cases) h =
      let p = and_parts (operand_prints a && true) (cases_print cases) h in
      with-val-prints (val_of s.w.top.names a) (λ v. switch_turn s w v b cases) (read-prints a p.0) (λ v g. switch-turn s printable now w v b cases p.1)
  term-prints (term.Switch u a b cases) h = refl

  on-step : (p : Step) → step_prints p ≡ true → turn_prints (step_turn s p) ≡ true
  on-step (PhiAt phi) h = refl
  on-step (InstAt i) h = with-vals-prints (vals_of s.w.top.names (operands_of i.what)) (inst_turn s i.result i.what) (vals-print s.w.top.names (operands_of i.what) (top-prints s now) h) (λ vs g. inst-prints i.result i.what vs g)
  on-step (TermAt t) h = term-prints t h
  on-step NoStep h = refl

pub keeps-printable : (m : Module) (t : Target) (live : Point → LocalId → Bool) (g : Config) → IsPrintable m → config_prints g ≡ true → turn_prints (static_step m t live g) ≡ true
unfolding static_step
keeps-printable m t live g printable h = on-step (setting_of m t live g) printable (opened-prints g h) (step_in_module m g.top.at) (step-prints m printable g.top.at)
