-- The whole step.
use Rattle.std.proofs.Common.{◌≡◌, ℕ, zero, suc, ◌+◌, ◌<◌, Bool, true, false, Option, None, Some, List, [], ◌∷◌, ◌++◌, length, map, slice_get, refl, sym, ap, ◌∙◌, subst}
use Rattle.std.proofs.lemmas.Bool.{and_parts}
use Rattle.std.specs.List.{list_all}
use Rattle.std.specs.Prelude.{◌&&◌, ◌||◌, if◌then◌else◌}
use Rattle.ir_module.specs.declared.places.Point.{Point}
use Rattle.ir_module.specs.declared.tree.Function.{Function}
use Rattle.ir_module.specs.declared.tree.Inst.{Inst}
use Rattle.ir_module.specs.declared.tree.InstKind.{InstKind}
use Rattle.ir_module.specs.declared.tree.InstKind.TheVariants as kinds
use Rattle.ir_module.specs.declared.tree.Module.{Module}
use Rattle.ir_module.specs.declared.tree.Operand.{Operand}
use Rattle.ir_module.specs.declared.tree.Term.{Term}
use Rattle.ir_module.specs.declared.tree.Term.TheVariants as term
use Rattle.ir_module.specs.Edges.{edges}
use Rattle.ir_module.specs.Numbered.{Numbered, call_types_whole, calls_whole, flags_allowed, is_written, kind_allows, step_in_range}
use Rattle.ir_module.specs.Operands.{operands_of, step_operands, term_operands}
use Rattle.ir_module.specs.Steps.{InstAt, TermAt, step_in_module}
use Rattle.ir_module.proofs.StepLemmas.{module-passes}
use Rattle.ir_values.specs.declared.ids.BlockId.{BlockId}
use Rattle.ir_values.specs.declared.ids.FuncId.{FuncId}
use Rattle.ir_values.specs.declared.ids.LocalId.{LocalId}
use Rattle.ir_values.specs.declared.int.Width.{Width}
use Rattle.ir_values.specs.declared.int.Width.TheVariants.{W1}
use Rattle.ir_values.specs.declared.ty.Ty.{Ty}
use Rattle.ir_values.specs.declared.ty.Ty.TheVariants as ty
use Rattle.ir_values.specs.ClassTypes.{ClassTellsTypes, WordsTellTypes}
use Rattle.ir_values.specs.Int.{IntValue}
use Rattle.ir_values.specs.Types.{is_ty, signature}
use Rattle.ir_values.specs.Values.{is_bit}
use Rattle.qir_meaning.specs.Effects.{is_one}
use Rattle.qir_meaning.specs.Moves.{target_of}
use Rattle.qir_meaning.specs.State.{next}
use Rattle.kept_items.specs.declared.item.Choice.TheVariants.{One, Branch, Switch}
use Rattle.kept_items.specs.declared.target.Kind.TheVariants as kind
use Rattle.kept_items.specs.declared.target.Target.{Target}
use Rattle.kept_items.specs.declared.val.Val.{Val}
use Rattle.kept_items.specs.Targets.{has_ints, has_switch}
use Rattle.static_steps.specs.declared.config.Config.{Config}
use Rattle.static_steps.specs.declared.turn.Turn.{Turn}
use Rattle.static_steps.specs.declared.turn.Turn.TheVariants.{Bad}
use Rattle.static_steps.specs.Configurations.{Bounds, Calls, IsConfiguration, Stands}
use Rattle.static_steps.specs.Edges.{branch_turn, case_values, edges_to, switch_turn, targets}
use Rattle.static_steps.specs.Settings.{Setting}
use Rattle.static_steps.specs.Steps.{inst_turn, setting_of, static_step, step_turn, term_turn, with_val, with_vals}
use Rattle.static_steps.specs.Values.{val_of, vals_of}
use Rattle.type_check.specs.Faults.{Typed}
use Rattle.type_check.specs.Required.{required_qubits, required_results}
use Rattle.type_check.specs.Rules.{cases_differ, kind_agrees, result_agrees, term_agrees}
use Rattle.type_check.specs.Typing.{callee_type, condition, inst_wants, result_type, same_type, term_wants}
use Rattle.type_check.proofs.Equal.{is_void-is, same_type-is}
use Rattle.type_check.proofs.Facts.{StepKeeps, by-step, step-here, step-keeps}
use Rattle.typed_runs.specs.Fits.{IsCode as IsCodeType}
use Rattle.typed_runs.proofs.Blocks.{first-edge, later-edge, leads, target-edge}
use Rattle.typed_runs.proofs.Numbers.{all-types, range-at, whole-at, written-at}
use Rattle.typed_runs.proofs.Values.{head-keeps}
use Rattle.valid_steps.specs.Items.{IsOperand, all_differ}
use Rattle.valid_steps.specs.Turns.{IsTurn}
use Rattle.valid_steps.specs.Types.{dynamic_types}
use Rattle.valid_steps.proofs.Calls.{calls-good}
use Rattle.valid_steps.proofs.Edges.{at-edge, cases-have, count-targets, differ-at, edges-good, switch-differs, targets-are-edges}
use Rattle.valid_steps.proofs.Integers.{binary-good, convert-good, icmp-good, select-good}
use Rattle.valid_steps.proofs.Opened.{count-types, opens}
use Rattle.valid_steps.proofs.Operands.{AreVals, FitAll, Fits, by-func, by-int, by-more, by-one, by-three, by-two, operand-fits, operands-fit, operands-wanted, run_bounds, terms-wanted, wants-keep}
use Rattle.valid_steps.proofs.Places.{Here, here as stood, line, next-stands}
use Rattle.valid_steps.proofs.Returns.{back-good}
use Rattle.valid_steps.proofs.Turns.{IsGood, either-good, named}
use Rattle.valid_steps.proofs.Works.{IsWork, bounds_of}

module _ (s : Setting) (entry : FuncId) (limit : ℕ) (numbered : Numbered s.m) (typed : Typed s.m limit) (class_law : ClassTellsTypes) (word_law : WordsTellTypes)
    (codes : (f : Function) → slice_get s.m.funcs entry.0 ≡ Some f → IsCodeType f.ret)
    (ts : List (Option Ty)) (now : IsWork s.m s.t s.live entry (required_qubits s.m limit) (required_results s.m limit) ts s.w) (fresh : s.fresh.0 ≡ length ts)
    (spot : Here now.function s.w.top.at) where
  abbrev K : ℕ
  K = required_qubits s.m limit

  abbrev R : ℕ
  R = required_results s.m limit

  abbrev here : Bounds
  here = bounds_of s.m s.t s.live entry K R s.w

  abbrev Vals : List Ty → List Val → Type 0
  Vals us vs = AreVals s.m s.t here ts us vs

  abbrev Is : Ty → Val → Type 0
  Is u a = IsOperand s.m s.t here ts u a

  abbrev wanted_types : InstKind → List Ty
  wanted_types what = map (λ (w : Ty × Operand). w.0) (inst_wants what)

  -- ---- instructions

  module _ (less : s.w.top.at.index < length spot.block.phis + length spot.block.insts) (i : Inst) (is : step_in_module s.m s.w.top.at ≡ InstAt i) where
    stands : Stands (step_in_module s.m (next s.w.top.at))
    stands = next-stands s.m s.w.top.at now.function now.top.in_function spot less

    on-what : (what : InstKind) → ((u : Ty) → Calls u what → Calls u i.what) → kind_agrees what ≡ true → kind_allows what ≡ true → result_agrees now.function i.result (result_type what) ≡ true → call_types_whole what ≡ true
        → (vs : List Val) → Vals (wanted_types what) vs → IsGood s entry K R ts (inst_turn s i.result what vs)
    on-what (kinds.Binary o flags (ty.Int w) a c) ci ka al ra wh vs h =
        by-two s.m s.t here ts (λ us. IsGood s entry K R ts (inst_turn s i.result (kinds.Binary o flags (ty.Int w) a c) us)) (ty.Int w) (ty.Int w) vs h (λ v u hv hu.
        binary-good s entry K R ts now stands fresh i.result w (named now.function i.result (ty.Int w) ra) o flags al v u hv hu)
    on-what (kinds.Icmp o (ty.Int w) a c) ci ka al ra wh vs h =
        by-two s.m s.t here ts (λ us. IsGood s entry K R ts (inst_turn s i.result (kinds.Icmp o (ty.Int w) a c) us)) (ty.Int w) (ty.Int w) vs h (λ v u hv hu.
        icmp-good s entry K R ts now stands fresh i.result w (named now.function i.result condition ra) o v u hv hu)
    on-what (kinds.Convert o (ty.Int w) a (ty.Int to)) ci ka al ra wh vs h =
        by-one s.m s.t here ts (λ us. IsGood s entry K R ts (inst_turn s i.result (kinds.Convert o (ty.Int w) a (ty.Int to)) us)) (ty.Int w) vs h (λ v hv.
        convert-good s entry K R ts now stands fresh i.result w to (named now.function i.result (ty.Int to) ra) o ka v hv)
    on-what (kinds.Select c u a u' d) ci ka al ra wh vs h =
        by-three s.m s.t here ts (λ us. IsGood s entry K R ts (inst_turn s i.result (kinds.Select c u a u' d) us)) condition u u' vs h (λ v y z hv hy hz.
        select-good s entry K R ts now stands fresh i.result u (named now.function i.result u ra) v y z hv hy (subst (λ q. Is q z) (sym (same_type-is u u' ka)) hz))
    on-what (kinds.Call ret g args) ci ka al ra wh vs h =
        by-more s.m s.t here ts (λ us. IsGood s entry K R ts (inst_turn s i.result (kinds.Call ret g args) us)) (callee_type ret args) (map (λ a. a.0) args) vs h (λ v us hv hus.
        by-func s.m s.t here ts (λ y. IsGood s entry K R ts (inst_turn s i.result (kinds.Call ret g args) (y ∷ us))) (signature ret (map (λ a. a.0) args)) v hv (λ d hd.
        let c = and_parts (is_ty ret) (list_all (λ (a : Ty × Operand). is_ty a.0) args) wh in
        calls-good s entry limit numbered typed class_law word_law ts now stands fresh i is ret (map (λ a. a.0) args) c.0 (all-types (λ (a : Ty × Operand). a.0) args c.1) ra (λ u e. ci u e) d hd us hus))
    on-what what ci ka al ra wh vs h = cc

    on-vals : (o : Option (List Val)) → FitAll s.m s.t here ts (wanted_types i.what) o → ((vs : List Val) → Vals (wanted_types i.what) vs → IsGood s entry K R ts (inst_turn s i.result i.what vs))
        → IsGood s entry K R ts (with_vals o (inst_turn s i.result i.what))
    on-vals None h more = tt
    on-vals (Some vs) h more = more vs h

    on-inst : StepKeeps s.m K R now.function s.w.top.at (InstAt i) → step_in_range s.m now.function (InstAt i) ≡ true → list_all is_written (operands_of i.what) ≡ true → call_types_whole i.what ≡ true → kind_allows i.what ≡ true
        → IsGood s entry K R ts (step_turn s (InstAt i))
    on-inst keeps range written whole allowed =
        let shape = and_parts (kind_agrees i.what) (result_agrees now.function i.result (result_type i.what)) keeps.shape in
        let o = wants-keep s.m here now.function s.w.top.at (InstAt i) (inst_wants i.what) keeps range written refl (operands-wanted i.what) in
        on-vals (vals_of s.w.top.names (operands_of i.what))
        (subst (λ q. FitAll s.m s.t here ts (wanted_types i.what) (vals_of s.w.top.names q)) (operands-wanted i.what) (operands-fit s.m s.t here ts now.function s.w.top.names (inst_wants i.what) o now.top.names))
        (λ vs h. on-what i.what (λ u c. c) shape.0 allowed shape.1 whole vs h)

  -- ---- terminators

  module _ (range : step_in_range s.m now.function (TermAt spot.block.term) ≡ true) (written : list_all is_written (term_operands spot.block.term) ≡ true)
      (keeps : StepKeeps s.m K R now.function s.w.top.at (TermAt spot.block.term)) (differ : cases_differ (TermAt spot.block.term) ≡ true) where
    abbrev Leads : List BlockId → Type 0
    Leads bs = (j : ℕ) (b : BlockId) → slice_get bs j ≡ Some b → leads b (edges spot.block.term) ≡ true

    -- one block
    lead-one : (b : BlockId) → leads b (edges spot.block.term) ≡ true → Leads (b ∷ [])
    lead-one b h zero c e = let z : b ≡ c = cc in subst (λ y. leads y (edges spot.block.term) ≡ true) z h
    lead-one b h (suc j) c e = cc

    -- the operand that a terminator reads first
    first-of-term : (u : Ty) (a : Operand) (ws : List (Ty × Operand)) → term_wants spot.block.term ≡ (u, a) ∷ ws → Fits s.m s.t here ts u (val_of s.w.top.names a)
    first-of-term u a ws e =
        let o = wants-keep s.m here now.function s.w.top.at (TermAt spot.block.term) ((u, a) ∷ ws) keeps range written e (ap (map (λ (w : Ty × Operand). w.1)) (sym e) ∙ terms-wanted spot.block.term) in
        operand-fits s.m s.t here ts now.function s.w.top.names u a (head-keeps s.m (run_bounds here) now.function (u, a) ws o) now.top.names

    on-val : (u : Ty) (o : Option Val) (go : Val → Turn) → Fits s.m s.t here ts u o → ((v : Val) → Is u v → IsGood s entry K R ts (go v)) → IsGood s entry K R ts (with_val o go)
    on-val u None go h more = tt
    on-val u (Some v) go h more = more v h

    either-leads : (q : Bool) (b c : BlockId) (es : List BlockId) → leads b es ≡ true → leads c es ≡ true → leads (if q then b else c) es ≡ true
    either-leads true b c es h k = h
    either-leads false b c es h k = k

    on-branch : (v : Val) (b c : BlockId) → edges spot.block.term ≡ b ∷ c ∷ [] → Is condition v → IsGood s entry K R ts (branch_turn s v b c)
    on-branch v b c e h =
        by-int s.m s.t here ts (λ y. IsGood s entry K R ts (branch_turn s y b c)) W1 v h
        (λ i w.
        edges-good s entry limit numbered typed ts now spot range keeps ((if is_one i then b else c) ∷ []) One
        (lead-one (if is_one i then b else c) (subst (λ es. leads (if is_one i then b else c) es ≡ true) (sym e) (either-leads (is_one i) b c (b ∷ c ∷ []) (first-edge b (c ∷ [])) (later-edge c b (c ∷ []) (first-edge c []))))) refl)
        (λ d vary z.
        edges-good s entry limit numbered typed ts now spot range keeps (b ∷ c ∷ []) (Branch d) (λ j q g. subst (λ es. leads q es ≡ true) (sym e) (at-edge (b ∷ c ∷ []) j q g)) (refl, z))

    on-switch : (w : Width) (v : Val) (b : BlockId) (cases : List (IntValue × BlockId)) → edges spot.block.term ≡ map (λ (c : IntValue × BlockId). c.1) cases ++ b ∷ []
        → list_all (λ (c : IntValue × BlockId). same_type (ty.Int c.0.width) (ty.Int w)) cases ≡ true → all_differ (case_values cases) ≡ true → Is (ty.Int w) v
        → IsGood s entry K R ts (switch_turn s w v b cases)
    on-switch w v b cases e widths apart h =
        by-int s.m s.t here ts (λ y. IsGood s entry K R ts (switch_turn s w y b cases)) w v h
        (λ i q.
        edges-good s entry limit numbered typed ts now spot range keeps (target_of i cases b ∷ []) One
        (lead-one (target_of i cases b) (subst (λ es. leads (target_of i cases b) es ≡ true) (sym e) (target-edge i cases b))) refl)
        (λ d vary z.
        either-good s entry K R ts (has_switch s.t && (is_bit w || has_ints s.t)) (edges_to s (targets cases b) (Switch d w (case_values cases))) (Bad kind.Capability)
        (λ ok.
        edges-good s entry limit numbered typed ts now spot range keeps (targets cases b) (Switch d w (case_values cases))
        (λ j q g. subst (λ es. leads q es ≡ true) (targets-are-edges cases b ∙ sym e) (at-edge (targets cases b) j q g))
        (count-targets cases b, z, cases-have w cases widths, ok, apart))
        (λ no. tt))

    on-term : (t : Term) → spot.block.term ≡ t → IsGood s entry K R ts (term_turn s t)
    on-term t e = by-term t e keeps.shape
      where
        by-term : (t : Term) → spot.block.term ≡ t → term_agrees now.function spot.block.term ≡ true → IsGood s entry K R ts (term_turn s t)
        by-term term.RetVoid e shape = back-good s entry limit typed ts now codes None (is_void-is now.function.ret (subst (λ t. term_agrees now.function t ≡ true) e shape))
        by-term (term.Ret u a) e shape =
            on-val u (val_of s.w.top.names a) _ (first-of-term u a [] (ap term_wants e)) (λ v h.
            back-good s entry limit typed ts now codes (Some v) (subst (λ q. Is q v) (same_type-is u now.function.ret (subst (λ t. term_agrees now.function t ≡ true) e shape)) h))
        by-term (term.Br b) e shape =
            edges-good s entry limit numbered typed ts now spot range keeps (b ∷ []) One (lead-one b (subst (λ t. leads b (edges t) ≡ true) (sym e) (first-edge b []))) refl
        by-term (term.CondBr c x y) e shape = on-val condition (val_of s.w.top.names c) _ (first-of-term condition c [] (ap term_wants e)) (λ v h. on-branch v x y (ap edges e) h)
        by-term (term.Switch (ty.Int w) a b cases) e shape =
            on-val (ty.Int w) (val_of s.w.top.names a) _ (first-of-term (ty.Int w) a [] (ap term_wants e)) (λ v h.
            on-switch w v b cases (ap edges e) (subst (λ t. term_agrees now.function t ≡ true) e shape) (switch-differs (ty.Int w) a b cases spot.block.term e differ) h)
        by-term (term.Switch u a b cases) e shape = let q = subst (λ t. term_agrees now.function t ≡ true) e shape in cc

  -- ---- one step

  step-good : IsGood s entry K R ts (step_turn s (step_in_module s.m s.w.top.at))
  step-good =
      let p : Point = s.w.top.at in
      let f : Function = now.function in
      let at : slice_get s.m.funcs p.func.0 ≡ Some f = now.top.in_function in
      let inside = step-here f p spot.block spot.is in
      let stood = line s.m p f at spot.block spot.is in
      let range = range-at s.m numbered p f at in
      let whole = whole-at s.m numbered p f at in
      let written = written-at s.m numbered p f at in
      let flags = module-passes (λ f s. flags_allowed s) s.m p f numbered.flags refl at in
      by-step spot.block p.index spot.from spot.to (IsGood s entry K R ts (step_turn s (step_in_module s.m p)))
      (λ i q z less.
      subst (λ x. IsGood s entry K R ts (step_turn s x)) (sym (stood ∙ z))
      (on-inst less i (stood ∙ z) (step-keeps s.m limit typed p f at (InstAt i) (inside ∙ z)) (subst (λ x. step_in_range s.m f x ≡ true) (inside ∙ z) range) (subst (λ x. list_all is_written (step_operands x) ≡ true) (inside ∙ z) written) (subst (λ x. calls_whole x ≡ true) (inside ∙ z) whole) (subst (λ x. flags_allowed x ≡ true) (inside ∙ z) flags)))
      (λ z.
      subst (λ x. IsGood s entry K R ts (step_turn s x)) (sym (stood ∙ z))
      (on-term (subst (λ x. step_in_range s.m f x ≡ true) (inside ∙ z) range) (subst (λ x. list_all is_written (step_operands x) ≡ true) (inside ∙ z) written) (step-keeps s.m limit typed p f at (TermAt spot.block.term) (inside ∙ z)) (subst (λ x. cases_differ x ≡ true) (inside ∙ z) (differ-at s.m limit typed p f at)) spot.block.term refl))

pub keeps-configurations : (m : Module) (limit : ℕ) (t : Target) (live : Point → LocalId → Bool) (entry : FuncId) (g : Config) → Numbered m → Typed m limit → ClassTellsTypes → WordsTellTypes
    → ((f : Function) → slice_get m.funcs entry.0 ≡ Some f → IsCodeType f.ret)
    → IsConfiguration m t live entry (required_qubits m limit) (required_results m limit) g
    → IsTurn m t live entry (required_qubits m limit) (required_results m limit) (dynamic_types m g) g.allocated g.returned (static_step m t live g)
unfolding static_step
keeps-configurations m limit t live entry g numbered typed class_law word_law codes h =
    let now = opens m t live entry (required_qubits m limit) (required_results m limit) g h in
    step-good (setting_of m t live g) entry limit numbered typed class_law word_law codes (dynamic_types m g) now (sym (count-types m g)) (stood m g.top.at now.function now.top.in_function now.top.stands)
