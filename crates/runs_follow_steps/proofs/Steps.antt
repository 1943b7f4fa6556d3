-- Every tick of a run is met by the static step of the configuration that describes it.
use Rattle.std.proofs.Common.{◌≡◌, Bool, true, Option, None, Some, List, [], ◌∷◌, length, map, refl, sym, ap, ◌∙◌, subst}
use Rattle.std.specs.Prelude.{if◌then◌else◌, slice_get}
use Rattle.ir_module.specs.declared.places.Point.{Point}
use Rattle.ir_module.specs.declared.tree.Block.{Block}
use Rattle.ir_module.specs.declared.tree.Function.{Function}
use Rattle.ir_module.specs.declared.tree.Inst.{Inst}
use Rattle.ir_module.specs.declared.tree.InstKind.{InstKind}
use Rattle.ir_module.specs.declared.tree.InstKind.TheVariants as kind
use Rattle.ir_module.specs.declared.tree.Module.{Module}
use Rattle.ir_module.specs.declared.tree.Operand.{Operand}
use Rattle.ir_module.specs.declared.tree.Term.{Term}
use Rattle.ir_module.specs.declared.tree.Term.TheVariants as term
use Rattle.ir_module.specs.Classes.{class_of_function}
use Rattle.ir_module.specs.Operands.{operands_of}
use Rattle.ir_module.specs.Steps.{Step, PhiAt, InstAt, TermAt, NoStep, step_in_module}
use Rattle.ir_values.specs.declared.class.Class.{Class}
use Rattle.ir_values.specs.declared.ids.FuncId.{FuncId}
use Rattle.ir_values.specs.declared.ids.LocalId.{LocalId}
use Rattle.ir_values.specs.declared.ty.Ty.{Ty}
use Rattle.ir_values.specs.declared.ty.Ty.TheVariants as ty
use Rattle.ir_values.specs.declared.value.Value.{Value}
use Rattle.ir_values.specs.declared.value.Value.TheVariants as value
use Rattle.ir_values.specs.Int.{IntValue}
use Rattle.ir_values.specs.Names.{name_text}
use Rattle.qir_meaning.specs.Effects.{is_one}
use Rattle.qir_meaning.specs.Moves.{move, does, performs, calls, with_body, declared, with_values, with_value, with_int, jump, target_of, step_move, ends}
use Rattle.qir_meaning.specs.State.{Env, State, next, value_of, values_of}
use Rattle.qir_meaning.specs.State as run
use Rattle.qir_meaning.specs.code.Steps.{Waiting, Whole, tick, tick_of}
use Rattle.kept_items.specs.declared.item.Choice.TheVariants.{One}
use Rattle.kept_items.specs.declared.target.Target.{Target}
use Rattle.kept_items.specs.declared.val.Val.{Val}
use Rattle.kept_items.specs.declared.val.Val.TheVariants.{Known}
use Rattle.kept_items.specs.Items.{valued}
use Rattle.static_steps.specs.declared.config.Config.{Config}
use Rattle.static_steps.specs.declared.turn.Turn.{Turn}
use Rattle.static_steps.specs.Calls.{body_turn, calls_turn, declared_turn}
use Rattle.static_steps.specs.Edges.{branch_turn, switch_turn}
use Rattle.static_steps.specs.Returns.{back_turn}
use Rattle.static_steps.specs.Settings.{Setting}
use Rattle.static_steps.specs.Steps.{inst_turn, setting_of, static_step, step_turn, term_turn, with_val, with_vals}
use Rattle.static_steps.specs.Values.{val_of, vals_of}
use Rattle.runs_follow_steps.specs.Describes.{Describes, Fits, IsNot, ResultInRange}
use Rattle.runs_follow_steps.specs.Meets.{TurnMeets, traps}
use Rattle.runs_follow_steps.proofs.Bound.{whole}
use Rattle.runs_follow_steps.proofs.Calls.{call-here, enters-meets, back-meets, back-void}
use Rattle.runs_follow_steps.proofs.Declared.{class-meets}
use Rattle.runs_follow_steps.proofs.Edges.{edges-meet, branch-meets, switch-meets, targets-are}
use Rattle.runs_follow_steps.proofs.Flows.{Flows, LiveOperand}
use Rattle.runs_follow_steps.proofs.Frames.{AllIn, In, ValsFit, ValFits, fit-known, operand-fits, operands-fit}
use Rattle.runs_follow_steps.proofs.Integers.{binary-meets, icmp-meets, convert-meets, select-meets}

module _ (s : Setting) (flows : Flows s.m s.live) (ds : List IntValue) (env : Env) (us : List Waiting) (st : State) (fits : Fits s.m s.live ds s.w env us st) (counted : s.fresh.0 ≡ length ds) where
  abbrev here : Point
  here = s.w.top.at

  abbrev v : Whole
  v = whole s.w env us st

  abbrev Meets : run.Move → Turn → Type 0
  Meets mv u = TurnMeets s.m s.live (tick_of v mv) ds st u

  module _ (i : Inst) (stands : step_in_module s.m here ≡ InstAt i) where
    abbrev x : Option LocalId
    x = i.result

    passes : (y : LocalId) → s.live (next here) y ≡ true → IsNot x y → s.live here y ≡ true
    passes y l n = flows.inst_passes here i y stands l n

    range : ResultInRange s.m here.func x
    range = flows.inst_result here i stands

    body-meets : (g : FuncId) (f : Function) → slice_get s.m.funcs g.0 ≡ Some f → (o : Option (List Block)) → (ts : List Ty) (vs : List Val) → AllIn ds vs → Meets (with_body s.m here env st x g f o ts (map (valued ds) vs)) (body_turn s x g f o ts vs)
    body-meets g f e (Some blocks) ts vs all = enters-meets s ds env us st fits counted x passes range (call-here s.m here i stands) g f vs e all
    body-meets g f e None ts vs all = by-class (class_of_function f)
      where
        by-class : (c : Option Class) → Meets (declared s.m here env st x f c ts (map (valued ds) vs)) (declared_turn s x f c ts vs)
        by-class None = tt
        by-class (Some c) = class-meets s ds env us st fits counted x passes range f (name_text f.name) c ts vs

    calls-meet : (g : FuncId) (ts : List Ty) (vs : List Val) → AllIn ds vs → Meets (calls s.m here env st x g (slice_get s.m.funcs g.0) ts (map (valued ds) vs)) (calls_turn s x g (slice_get s.m.funcs g.0) ts vs)
    calls-meet g ts vs all = by-function (slice_get s.m.funcs g.0) refl
      where
        by-function : (o : Option Function) → slice_get s.m.funcs g.0 ≡ o → Meets (calls s.m here env st x g o ts (map (valued ds) vs)) (calls_turn s x g o ts vs)
        by-function None e = tt
        by-function (Some f) e = body-meets g f e f.blocks ts vs all

    -- one case for each kind
    kind-meets : (what : InstKind) (vs : List Val) → AllIn ds vs → Meets (performs s.m here env st x what (map (valued ds) vs)) (inst_turn s x what vs)
    kind-meets (kind.Binary o flags (ty.Int wd) a b) (p ∷ q ∷ []) all = binary-meets s ds env us st fits counted x passes range o flags (ty.Int wd) a b wd p q
    kind-meets (kind.Icmp o (ty.Int wd) a b) (p ∷ q ∷ []) all = icmp-meets s ds env us st fits counted x passes range o (ty.Int wd) a b wd p q
    kind-meets (kind.Convert o (ty.Int wd) a (ty.Int to)) (p ∷ []) all = convert-meets s ds env us st fits counted x passes range o (ty.Int wd) a to wd p
    kind-meets (kind.Select c t' a u' b) (p ∷ q ∷ r ∷ []) all = select-meets s ds env us st fits counted x passes range c t' u' a b t' p q r all.1.0 all.1.1.0
    kind-meets (kind.Call ret f args) (Known (value.Func g) ∷ vs) all = calls-meet g (map (λ a. a.0) args) vs all.1
    kind-meets what vs all = tt

    inst-meets : Meets (does s.m here env st x i.what) (with_vals (vals_of s.w.top.names (operands_of i.what)) (inst_turn s x i.what))
    inst-meets = by-vals (vals_of s.w.top.names (operands_of i.what)) (values_of env (operands_of i.what)) (operands-fit s.live s.m ds s.w.top env fits.top (operands_of i.what) (flows.inst_reads here i stands))
      where
        by-vals : (o : Option (List Val)) (p : Option (List Value)) → ValsFit ds o p → Meets (with_values p st (performs s.m here env st x i.what)) (with_vals o (inst_turn s x i.what))
        by-vals None p h = traps (ap (λ q. tick_of v (with_values q st (performs s.m here env st x i.what))) h)
        by-vals (Some vs) p h = subst (λ q. Meets (with_values q st (performs s.m here env st x i.what)) (inst_turn s x i.what vs)) (sym h.0) (kind-meets i.what vs h.1)

  -- of the operand of a terminator
  one-val : (a : Operand) → ValFits ds (val_of s.w.top.names a) (value_of env a) → (go : Val → Turn) (mv : Value → run.Move) → ((p : Val) → In ds p → Meets (mv (valued ds p)) (go p)) → Meets (with_value (value_of env a) st mv) (with_val (val_of s.w.top.names a) go)
  one-val a h go mv k = by-val (val_of s.w.top.names a) (value_of env a) h
    where
      by-val : (o : Option Val) (p : Option Value) → ValFits ds o p → Meets (with_value p st mv) (with_val o go)
      by-val None p h = traps (ap (λ q. tick_of v (with_value q st mv)) h)
      by-val (Some b) p h = subst (λ q. Meets (with_value q st mv) (go b)) (sym h.0) (k b h.1)

  operand-val : (a : Operand) → LiveOperand s.live here a → ValFits ds (val_of s.w.top.names a) (value_of env a)
  operand-val a l = fit-known ds (val_of s.w.top.names a) (value_of env a) (operand-fits s.live s.m ds s.w.top env fits.top a l)

  term-meets : (e : Term) → step_in_module s.m here ≡ TermAt e → Meets (ends s.m here env st e) (term_turn s e)
  term-meets term.RetVoid e = back-void s ds env us st fits counted s.w.below us fits.below
  term-meets (term.Ret ty a) e =
      one-val a (operand-val a (flows.term_reads here (term.Ret ty a) e).0) (λ p. back_turn s s.w.below (Some p)) (λ p. run.Back (Some p)) (λ p i. back-meets s ds env us st fits counted s.w.below us p fits.below i)
  term-meets (term.Br b) e = edges-meet s ds env us st fits counted (b ∷ []) One b refl (flows.along here (term.Br b) 0 b e refl)
  term-meets (term.CondBr c b d) e =
      one-val c (operand-val c (flows.term_reads here (term.CondBr c b d) e).0) (λ p. branch_turn s p b d) (λ p. with_int p (λ i. jump s.m here env st (if is_one i then b else d))) (λ p i. branch-meets s ds env us st fits counted p b d (flows.along here (term.CondBr c b d) 0 b e refl) (flows.along here (term.CondBr c b d) 1 d e refl))
  term-meets (term.Switch (ty.Int wd) a b cases) e =
      one-val a (operand-val a (flows.term_reads here (term.Switch (ty.Int wd) a b cases) e).0) (λ p. switch_turn s wd p b cases) (λ p. with_int p (λ i. jump s.m here env st (target_of i cases b))) (λ p i. switch-meets s ds env us st fits counted wd p b cases (λ k c h. flows.along here (term.Switch (ty.Int wd) a b cases) k c e (ap (λ bs. slice_get bs k) (sym (targets-are s ds env us st fits counted cases b)) ∙ h)))
  term-meets (term.Switch other a b cases) e = tt

  pub step-meets : (c : Step) → step_in_module s.m here ≡ c → Meets (step_move s.m here env st c) (step_turn s c)
  step-meets (PhiAt phi) e = tt
  step-meets (InstAt i) e = inst-meets i e
  step-meets (TermAt k) e = term-meets k e
  step-meets NoStep e = tt

-- one tick of the run beside the static step of the configuration that describes its state
pub follows : (m : Module) (t : Target) (live : Point → LocalId → Bool) → Flows m live → (g : Config) (ds : List IntValue) (v : Whole)
    → Describes m live ds g v → TurnMeets m live (tick m v) ds v.state (static_step m t live g)
unfolding tick move static_step
follows m t live flows g ds v d =
    let s : Setting = setting_of m t live g in
    subst (λ p. TurnMeets m live (tick_of (record v { at = p }) (step_move m p v.env v.state (step_in_module m p))) ds v.state (step_turn s (step_in_module m g.top.at))) (sym d.at)
    (step-meets s flows ds v.env v.waits v.state d.fits d.count (step_in_module m g.top.at) refl)
