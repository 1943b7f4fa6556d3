-- The whole step.
use Rattle.std.proofs.Common.{◌≡◌, ℕ, Bool, true, Option, None, Some, List, [], ◌∷◌, map, slice_get, refl, sym, ◌∙◌, subst}
use Rattle.std.proofs.lemmas.Bool.{and_parts}
use Rattle.std.specs.List.{All, list_all}
use Rattle.ir_module.specs.declared.places.Point.{Point}
use Rattle.ir_module.specs.declared.tree.Function.{Function}
use Rattle.ir_module.specs.declared.tree.Inst.{Inst}
use Rattle.ir_module.specs.declared.tree.InstKind.{InstKind}
use Rattle.ir_module.specs.declared.tree.InstKind.TheVariants as kinds
use Rattle.ir_module.specs.declared.tree.Module.{Module}
use Rattle.ir_module.specs.declared.tree.Operand.{Operand}
use Rattle.ir_module.specs.Classes.{type_words}
use Rattle.ir_module.specs.Numbered.{Numbered, call_types_whole, calls_whole, is_written, step_in_range}
use Rattle.ir_module.specs.Operands.{operands_of, step_operands}
use Rattle.ir_module.specs.Steps.{InstAt, step_in_module}
use Rattle.ir_values.specs.declared.class.Class.{Class}
use Rattle.ir_values.specs.declared.ids.FuncId.{FuncId}
use Rattle.ir_values.specs.declared.ids.LocalId.{LocalId}
use Rattle.ir_values.specs.declared.ty.Ty.{Ty}
use Rattle.ir_values.specs.declared.ty.Ty.TheVariants as ty
use Rattle.ir_values.specs.declared.value.Value.TheVariants as value
use Rattle.ir_values.specs.Calls.{class_of}
use Rattle.ir_values.specs.ClassTypes.{ClassTellsTypes, HasTypes}
use Rattle.ir_values.specs.Names.{name_text}
use Rattle.ir_values.specs.Types.{IsTy, is_ty, signature}
use Rattle.kept_items.specs.declared.target.Target.{Target}
use Rattle.kept_items.specs.declared.val.Val.{Val}
use Rattle.kept_items.specs.declared.val.Val.TheVariants.{Known}
use Rattle.static_steps.specs.declared.config.Config.{Config}
use Rattle.static_steps.specs.Calls.{calls_turn}
use Rattle.static_steps.specs.Configurations.{Bounds, IsConfiguration}
use Rattle.static_steps.specs.Settings.{Setting}
use Rattle.static_steps.specs.Steps.{inst_turn, setting_of, static_step, step_turn, with_vals}
use Rattle.static_steps.specs.Values.{vals_of}
use Rattle.type_check.specs.Faults.{Typed}
use Rattle.type_check.specs.Required.{required_qubits, required_results}
use Rattle.type_check.specs.Typing.{inst_wants}
use Rattle.type_check.proofs.Facts.{StepKeeps, by-step, step-here, step-keeps}
use Rattle.typed_runs.proofs.Numbers.{all-types, range-at, whole-at, written-at}
use Rattle.valid_steps.specs.Types.{dynamic_types}
use Rattle.valid_steps.proofs.Opened.{opens}
use Rattle.valid_steps.proofs.Operands.{AreVals, FitAll, operands-fit, operands-wanted, wants-keep}
use Rattle.valid_steps.proofs.Places.{Here, here as stood, line}
use Rattle.valid_steps.proofs.Works.{IsWork, bounds_of}
use Rattle.issued_steps.specs.Issues.{IsInOrder}
use Rattle.issued_steps.proofs.Calls.{body-does}
use Rattle.issued_steps.proofs.Instructions.{binary-does, convert-does, icmp-does, select-does}
use Rattle.issued_steps.proofs.Terms.{term-does}
use Rattle.issued_steps.proofs.Turns.{Does}

module _ (s : Setting) (entry : FuncId) (limit : ℕ) (numbered : Numbered s.m) (typed : Typed s.m limit) (class_law : ClassTellsTypes) (ts : List (Option Ty))
    (now : IsWork s.m s.t s.live entry (required_qubits s.m limit) (required_results s.m limit) ts s.w) (spot : Here now.function s.w.top.at) where
  abbrev K : ℕ
  K = required_qubits s.m limit

  abbrev R : ℕ
  R = required_results s.m limit

  abbrev here : Bounds
  here = bounds_of s.m s.t s.live entry K R s.w

  abbrev Vals : List Ty → List Val → Type 0
  Vals us vs = AreVals s.m s.t here ts us vs

  abbrev wanted_types : InstKind → List Ty
  wanted_types what = map (λ (w : Ty × Operand). w.0) (inst_wants what)

  tells-class : (ret : Ty) (us : List Ty) → IsTy ret → All IsTy us → (name : List ℕ) (c : Class) → class_of name (signature ret us) ≡ Some c → HasTypes c ret us
  unfolding ClassTellsTypes
  tells-class ret us i is name c e = class_law name ret us c i is e

  call-does : (x : Option LocalId) (g : FuncId) (f : Function) (ret : Ty) (us : List Ty) → slice_get s.m.funcs g.0 ≡ Some f → type_words f ≡ signature ret us → IsTy ret → All IsTy us → (vs : List Val)
      → Does s (calls_turn s x g (slice_get s.m.funcs g.0) us vs)
  call-does x g f ret us at words i is vs =
      subst (λ o. Does s (calls_turn s x g o us vs)) (sym at)
      (body-does s x g.0 f at ret us words (λ c d. tells-class ret us i is (name_text f.name) c (subst (λ ws. class_of (name_text f.name) ws ≡ Some c) words d)) g f.blocks vs)

  on-what : (x : Option LocalId) (what : InstKind) → call_types_whole what ≡ true → (vs : List Val) → Vals (wanted_types what) vs → Does s (inst_turn s x what vs)
  on-what x (kinds.Binary o flags (ty.Int w) a c) wh (u ∷ v ∷ []) h = binary-does s x o flags w u v
  on-what x (kinds.Icmp o (ty.Int w) a c) wh (u ∷ v ∷ []) h = icmp-does s x o w u v
  on-what x (kinds.Convert o (ty.Int w) a (ty.Int to)) wh (u ∷ []) h = convert-does s x o w u to
  on-what x (kinds.Select c u a u' d) wh (p ∷ q ∷ r ∷ []) h = select-does s x u p q r
  on-what x (kinds.Call ret g args) wh (Known (value.Func d) ∷ vs) h =
      let c = and_parts (is_ty ret) (list_all (λ (a : Ty × Operand). is_ty a.0) args) wh in
      let f = h.0 in
      call-does x d f.0 ret (map (λ a. a.0) args) f.1.there f.2 c.0 (all-types (λ (a : Ty × Operand). a.0) args c.1) vs
  on-what x what wh vs h = tt

  on-vals : (x : Option LocalId) (what : InstKind) → call_types_whole what ≡ true → (o : Option (List Val)) → FitAll s.m s.t here ts (wanted_types what) o → Does s (with_vals o (inst_turn s x what))
  on-vals x what wh None h = tt
  on-vals x what wh (Some vs) h = on-what x what wh vs h

  on-inst : (i : Inst) → StepKeeps s.m K R now.function s.w.top.at (InstAt i) → step_in_range s.m now.function (InstAt i) ≡ true → list_all is_written (operands_of i.what) ≡ true → call_types_whole i.what ≡ true
      → Does s (step_turn s (InstAt i))
  on-inst i keeps range written whole =
      let o = wants-keep s.m here now.function s.w.top.at (InstAt i) (inst_wants i.what) keeps range written refl (operands-wanted i.what) in
      on-vals i.result i.what whole (vals_of s.w.top.names (operands_of i.what))
      (subst (λ q. FitAll s.m s.t here ts (wanted_types i.what) (vals_of s.w.top.names q)) (operands-wanted i.what) (operands-fit s.m s.t here ts now.function s.w.top.names (inst_wants i.what) o now.top.names))

  step-does : Does s (step_turn s (step_in_module s.m s.w.top.at))
  step-does =
      let p : Point = s.w.top.at in
      let f : Function = now.function in
      let at : slice_get s.m.funcs p.func.0 ≡ Some f = now.top.in_function in
      let inside = step-here f p spot.block spot.is in
      let stands = line s.m p f at spot.block spot.is in
      by-step spot.block p.index spot.from spot.to (Does s (step_turn s (step_in_module s.m p)))
      (λ i q z less.
      subst (λ x. Does s (step_turn s x)) (sym (stands ∙ z))
      (on-inst i (step-keeps s.m limit typed p f at (InstAt i) (inside ∙ z)) (subst (λ x. step_in_range s.m f x ≡ true) (inside ∙ z) (range-at s.m numbered p f at))
      (subst (λ x. list_all is_written (step_operands x) ≡ true) (inside ∙ z) (written-at s.m numbered p f at)) (subst (λ x. calls_whole x ≡ true) (inside ∙ z) (whole-at s.m numbered p f at))))
      (λ z. subst (λ x. Does s (step_turn s x)) (sym (stands ∙ z)) (term-does s spot.block.term))

pub issues-calls : (m : Module) (limit : ℕ) (t : Target) (live : Point → LocalId → Bool) (entry : FuncId) (g : Config) → Numbered m → Typed m limit → ClassTellsTypes
    → IsConfiguration m t live entry (required_qubits m limit) (required_results m limit) g
    → IsInOrder m t g.phase (static_step m t live g)
unfolding static_step
issues-calls m limit t live entry g numbered typed law h =
    let now = opens m t live entry (required_qubits m limit) (required_results m limit) g h in
    step-does (setting_of m t live g) entry limit numbered typed law (dynamic_types m g) now (stood m g.top.at now.function now.top.in_function now.top.stands)
