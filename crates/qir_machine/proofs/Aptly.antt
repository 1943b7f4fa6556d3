-- In an admitted module integers have the widths of their instructions, and operations as many results as their classes say.
use Rattle.std.proofs.Common.{◌≡◌, ◌∙◌, ℕ, zero, suc, ◌+◌, ◌==◌, ◌&&◌, ◌||◌, Bool, true, false, Option, None, Some, List, [], ◌∷◌, map, count_by, refl, sym, ap, subst, cond, arith}
use Rattle.std.proofs.lemmas.Bool.{and_parts}
use Rattle.std.proofs.lemmas.List.Folds.{list_all-map}
use Rattle.std.proofs.lemmas.List.Sums.{sum_by-cons}
use Rattle.std.specs.List.{list_all, All}
use Rattle.std.specs.Cmp.{unsigned_Decides}
use Rattle.std.specs.Prelude.{slice_get, is_some, ⊤}
use Rattle.backend_api.specs.declared.operation.Arg.{Arg}
use Rattle.backend_api.specs.declared.operation.Arg.TheVariants as arg
use Rattle.backend_api.specs.declared.operation.QubitRef.TheVariants as qubit
use Rattle.backend_api.specs.declared.operation.ResultRef.TheVariants as result
use Rattle.backend_api.specs.Operations.{is_result}
use Rattle.ir_module.specs.declared.places.Point.{Point}
use Rattle.ir_module.specs.declared.tree.Block.{Block}
use Rattle.ir_module.specs.declared.tree.Function.{Function}
use Rattle.ir_module.specs.declared.tree.Inst.{Inst}
use Rattle.ir_module.specs.declared.tree.InstKind.{InstKind}
use Rattle.ir_module.specs.declared.tree.InstKind.TheVariants as kind
use Rattle.ir_module.specs.declared.tree.Module.{Module}
use Rattle.ir_module.specs.declared.tree.Operand.{Operand}
use Rattle.ir_module.specs.Classes.{class_of_function, type_words}
use Rattle.ir_module.specs.Numbered.{Numbered, step_in_range, operand_in_range, is_written, flags_allowed, kind_allows, calls_whole, call_types_whole}
use Rattle.ir_module.specs.Operands.{operands_of, step_operands}
use Rattle.ir_module.specs.Steps.{Step, InstAt, TermAt, step_in_module, step_at, step_of_point}
use Rattle.ir_module.proofs.StepLemmas.{module-passes}
use Rattle.ir_values.specs.Arithmetic.{allows, converts}
use Rattle.ir_values.specs.Calls.{class_of}
use Rattle.ir_values.specs.ClassTypes.{HasTypes, ClassTellsTypes, is_result_type}
use Rattle.ir_values.specs.Int.{IntValue}
use Rattle.ir_values.specs.Names.{name_text}
use Rattle.ir_values.specs.Types.{IsTy, is_ty, signature}
use Rattle.ir_values.specs.Width.{bits_of}
use Rattle.ir_values.specs.declared.class.Class.{Class}
use Rattle.ir_values.specs.declared.class.Class.TheVariants as class
use Rattle.ir_values.specs.declared.ids.FuncId.{FuncId}
use Rattle.ir_values.specs.declared.ids.LocalId.{LocalId}
use Rattle.ir_values.specs.declared.int.Width.{Width}
use Rattle.ir_values.specs.declared.int.Width.TheVariants.{W1, W8, W16, W32, W64}
use Rattle.ir_values.specs.declared.ty.Ty.{Ty}
use Rattle.ir_values.specs.declared.ty.Ty.TheVariants as ty
use Rattle.ir_values.specs.declared.value.Value.{Value}
use Rattle.ir_values.specs.declared.value.Value.TheVariants as value
use Rattle.machine_frames.specs.code.Apt.{same_width, apt, if_apt, issues, declared_apt, of_class, body_apt, calls_apt, performs_apt, does_apt, step_apt, move_apt}
use Rattle.qir_meaning.specs.code.Steps.{Whole}
use Rattle.qir_meaning.specs.Effects.{argument, arguments, declared_call, operation, first_result, gate, measure_into, measure_returning}
use Rattle.qir_meaning.specs.Moves.{declared, with_body, calls, performs, does, with_values, step_move, move}
use Rattle.qir_meaning.specs.State.{Env, State, Move, Trap, Halt, is_held, values_of}
use Rattle.type_check.specs.Faults.{Typed}
use Rattle.type_check.specs.Required.{required_qubits, required_results}
use Rattle.type_check.specs.Rules.{kind_agrees, result_agrees, number_below, operand_known}
use Rattle.type_check.specs.Typing.{inst_wants, result_type, operand_has, wants}
use Rattle.type_check.proofs.Facts.{StepKeeps, step-keeps, step-here, step-in, by-step}
use Rattle.typed_runs.specs.Fits.{FrameFits, WholeFits}
use Rattle.typed_runs.specs.Values.{Bounds, bounds_at, IsOf, AllOf}
use Rattle.typed_runs.proofs.Numbers.{range-at, whole-at, written-at, all-types}
use Rattle.typed_runs.proofs.Values.{MayBeAll, WantsKeep, wanted-of, by-int, by-one, by-two, by-more, by-func}

same-bits : (v w u : Width) → v ≡ u → w ≡ u → same_width v w ≡ true
same-bits v w u e f = subst (λ v. same_width v w ≡ true) (sym e) (subst (λ w. same_width u w ≡ true) (sym f) (itself u))
  where
    itself : (u : Width) → same_width u u ≡ true
    itself W1 = refl
    itself W8 = refl
    itself W16 = refl
    itself W32 = refl
    itself W64 = refl

both : (a b : Bool) → a ≡ true → b ≡ true → (a && b) ≡ true
both a b e f = rw (e, f) refl

if-it-is : (b : Bool) (move : Move) → b ≡ true → if_apt b move ≡ move
if-it-is true move e = refl
if-it-is false move e = cc

-- ---- the results among arguments are those of their types

module _ (m : Module) (bs : Bounds) (st : State) where
  held-or : (b : Bool) (x y z : Move) → x ≡ y → cond b x z ≡ cond b y z
  held-or true x y z e = e
  held-or false x y z e = refl

  argument-same : (t : Ty) (v : Value) → IsOf m bs t v → (go go' : Arg → Move) → ((a : Arg) → is_result a ≡ is_result_type t → go a ≡ go' a) → argument st t v go ≡ argument st t v go'
  argument-same ty.Qubit (value.Id i) h go go' e = e (arg.Qubit (qubit.Id i)) refl
  argument-same ty.Qubit (value.Alloc j) h go go' e = held-or (is_held st j) _ _ _ (e (arg.Qubit (qubit.Alloc j)) refl)
  argument-same ty.Qubit v h go go' e = absurd h
  argument-same ty.Res (value.Id i) h go go' e = e (arg.Res (result.Id i)) refl
  argument-same ty.Res (value.Measured i) h go go' e = e (arg.Res (result.Measured i)) refl
  argument-same ty.Res value.One h go go' e = refl
  argument-same ty.Res value.Zero h go go' e = refl
  argument-same ty.Res v h go go' e = absurd h
  argument-same ty.Double (value.Double d) h go go' e = e (arg.Double d) refl
  argument-same ty.Double v h go go' e = absurd h
  argument-same (ty.Int w) (value.Int i) h go go' e = e (arg.Int i) refl
  argument-same (ty.Int w) v h go go' e = absurd h
  argument-same t v h go go' e = refl

  more-results : (a : Arg) (t : Ty) (args : List Arg) (ts : List Ty) → is_result a ≡ is_result_type t → count_by is_result args ≡ count_by is_result_type ts → count_by is_result (a ∷ args) ≡ count_by is_result_type (t ∷ ts)
  more-results a t args ts e f =
      sum_by-cons (λ (a : Arg). cond (is_result a) 1 0) a args
      ∙ ap (λ b. cond b 1 0 + count_by is_result args) e
      ∙ ap (λ n. cond (is_result_type t) 1 0 + n) f
      ∙ sym (sum_by-cons (λ (t : Ty). cond (is_result_type t) 1 0) t ts)

  arguments-same : (ts : List Ty) (vs : List Value) → AllOf m bs ts vs → (go go' : List Arg → Move) → ((args : List Arg) → count_by is_result args ≡ count_by is_result_type ts → go args ≡ go' args) → arguments st ts vs go ≡ arguments st ts vs go'
  arguments-same [] [] h go go' e = e [] refl
  arguments-same [] (v ∷ vs) h go go' e = refl
  arguments-same (t ∷ ts) [] h go go' e = refl
  arguments-same (t ∷ ts) (v ∷ vs) h go go' e =
      argument-same t v h.0 _ _ (λ a ra. arguments-same ts vs h.1 _ _ (λ args rs. e (a ∷ args) (more-results a t args ts ra rs)))

  module _ (p : Point) (env : Env) where
    counted : (n : ℕ) (args : List Arg) (ts : List Ty) (move : Move) → count_by is_result_type ts ≡ n → count_by is_result args ≡ count_by is_result_type ts → if_apt (count_by is_result args == n) move ≡ move
    counted n args ts move e f = if-it-is (count_by is_result args == n) move (is-same (count_by is_result args) n (f ∙ e))
      where
        is-same : (i j : ℕ) → i ≡ j → (i == j) ≡ true
        is-same i j e = (unsigned_Decides i j).1 e

    declared-same : (x : Option LocalId) (name : List ℕ) (ret : Ty) (ts : List Ty) (c : Class) (vs : List Value) → HasTypes c ret ts → AllOf m bs ts vs → declared_apt m p env st x name ts c vs ≡ declared_call p env x st name ts c vs
    declared-same x name ret ts class.Gate vs h hv = arguments-same ts vs hv _ _ (λ args e. counted 0 args ts _ h.2 e)
    declared-same x name ret ts class.Measure vs h hv = arguments-same ts vs hv _ _ (λ args e. counted 1 args ts _ h.2 e)
    declared-same x name ret ts class.Returning vs h hv = arguments-same ts vs hv _ _ (λ args e. counted 0 args ts _ (ap (count_by is_result_type) h.1) e)
    declared-same x name ret ts c vs h hv = refl

-- ---- instructions

module _ (m : Module) (limit : ℕ) (numbered : Numbered m) (typed : Typed m limit) (class_law : ClassTellsTypes) where
  abbrev K : ℕ
  K = required_qubits m limit

  abbrev R : ℕ
  R = required_results m limit

  module _ (p : Point) (env : Env) (st : State) where
    abbrev here : Bounds
    here = bounds_at K R st

    class-same : (x : Option LocalId) (f : Function) (ret : Ty) (ts : List Ty) → IsTy ret → All IsTy ts → type_words f ≡ signature ret ts → (c : Option Class) → class_of_function f ≡ c → (vs : List Value) → AllOf m here ts vs → of_class m p env st x f c ts vs ≡ declared m p env st x f c ts vs
    unfolding ClassTellsTypes
    class-same x f ret ts i is w None e vs h = refl
    class-same x f ret ts i is w (Some c) e vs h =
        declared-same m here st p env x (name_text f.name) ret ts c vs (class_law (name_text f.name) ret ts c i is (subst (λ ws. class_of (name_text f.name) ws ≡ Some c) w e)) h

    body-same : (x : Option LocalId) (g : FuncId) (f : Function) (ret : Ty) (ts : List Ty) → IsTy ret → All IsTy ts → type_words f ≡ signature ret ts → (o : Option (List Block)) → (vs : List Value) → AllOf m here ts vs → body_apt m p env st x g f o ts vs ≡ with_body m p env st x g f o ts vs
    body-same x g f ret ts i is w None vs h = class-same x f ret ts i is w (class_of_function f) refl vs h
    body-same x g f ret ts i is w (Some bs) vs h = refl

    calls-same : (x : Option LocalId) (g : FuncId) (ret : Ty) (ts : List Ty) → IsTy ret → All IsTy ts → IsOf m here (ty.Func (signature ret ts)) (value.Func g) → (vs : List Value) → AllOf m here ts vs → calls_apt m p env st x g (slice_get m.funcs g.0) ts vs ≡ calls m p env st x g (slice_get m.funcs g.0) ts vs
    calls-same x g ret ts i is q vs h =
        subst (λ o. calls_apt m p env st x g o ts vs ≡ calls m p env st x g o ts vs) (sym q.1) (body-same x g q.0 ret ts i is q.2 q.0.blocks vs h)

    abbrev Same : Option LocalId → InstKind → List Value → Type 0
    Same x what vs = performs_apt m p env st x what vs ≡ performs m p env st x what vs

    performs-same : (x : Option LocalId) (what : InstKind) → kind_agrees what ≡ true → kind_allows what ≡ true → call_types_whole what ≡ true → (vs : List Value) → AllOf m here (map (λ (w : Ty × Operand). w.0) (inst_wants what)) vs → Same x what vs
    performs-same x (kind.Binary op flags (ty.Int w) a b) ka fa c vs h =
        by-two m here (Same x (kind.Binary op flags (ty.Int w) a b)) (ty.Int w) (ty.Int w) vs h (λ v u hv hu.
        by-int m here (λ y. Same x (kind.Binary op flags (ty.Int w) a b) (y ∷ u ∷ [])) w v hv (λ i ei.
        by-int m here (λ y. Same x (kind.Binary op flags (ty.Int w) a b) (value.Int i ∷ y ∷ [])) w u hu (λ j ej.
        if-it-is (same_width i.width j.width && allows op flags) _ (both (same_width i.width j.width) (allows op flags) (same-bits i.width j.width w ei ej) fa))))
    performs-same x (kind.Icmp pred (ty.Int w) a b) ka fa c vs h =
        by-two m here (Same x (kind.Icmp pred (ty.Int w) a b)) (ty.Int w) (ty.Int w) vs h (λ v u hv hu.
        by-int m here (λ y. Same x (kind.Icmp pred (ty.Int w) a b) (y ∷ u ∷ [])) w v hv (λ i ei.
        by-int m here (λ y. Same x (kind.Icmp pred (ty.Int w) a b) (value.Int i ∷ y ∷ [])) w u hu (λ j ej.
        if-it-is (same_width i.width j.width) _ (same-bits i.width j.width w ei ej))))
    performs-same x (kind.Convert cv (ty.Int w) a (ty.Int u)) ka fa c vs h =
        by-one m here (Same x (kind.Convert cv (ty.Int w) a (ty.Int u))) (ty.Int w) vs h (λ v hv.
        by-int m here (λ y. Same x (kind.Convert cv (ty.Int w) a (ty.Int u)) (y ∷ [])) w v hv (λ i ei.
        if-it-is (converts cv i.width u) _ (subst (λ z. converts cv z u ≡ true) (sym ei) ka)))
    performs-same x (kind.Select c' s a u d) ka fa c vs h = refl
    performs-same x (kind.Call ret g args) ka fa c vs h =
        by-more m here (Same x (kind.Call ret g args)) (ty.Func (signature ret (map (λ a. a.0) args))) (map (λ a. a.0) args) vs h (λ v us hv hus.
        by-func m here (λ y. Same x (kind.Call ret g args) (y ∷ us)) (signature ret (map (λ a. a.0) args)) v hv (λ d hd.
        let c' = and_parts (is_ty ret) (list_all (λ (a : Ty × Operand). is_ty a.0) args) c in
        calls-same x d ret (map (λ a. a.0) args) c'.0 (all-types (λ (a : Ty × Operand). a.0) args c'.1) hd us hus))
    performs-same x what ka fa c vs h = cc

    module _ (t : Ty) (fit : FrameFits m here p env t) where
      values-same : (o : Option (List Value)) (ts : List Ty) (go go' : List Value → Move) → MayBeAll m here ts o → ((vs : List Value) → AllOf m here ts vs → go vs ≡ go' vs) → with_values o st go ≡ with_values o st go'
      values-same None ts go go' h e = refl
      values-same (Some vs) ts go go' h e = e vs h

      operands-wanted : (what : InstKind) → map (λ (w : Ty × Operand). w.1) (inst_wants what) ≡ operands_of what
      operands-wanted (kind.Binary op flags t a b) = refl
      operands-wanted (kind.Icmp p t a b) = refl
      operands-wanted (kind.Convert c t a to) = refl
      operands-wanted (kind.Select c t a u b) = refl
      operands-wanted (kind.Call ret f args) = refl

      wants-keep : (i : Inst) → StepKeeps m K R fit.func p (InstAt i) → step_in_range m fit.func (InstAt i) ≡ true → list_all is_written (operands_of i.what) ≡ true → WantsKeep m here fit.func (inst_wants i.what)
      wants-keep i keeps range written =
          let operands = and_parts _ _ range in
          record {
            has = keeps.has;
            below = keeps.below;
            known = keeps.known;
            range = sym (list_all-map (operand_in_range m fit.func) (λ (w : Ty × Operand). w.1) (inst_wants i.what)) ∙ (ap (list_all (operand_in_range m fit.func)) (operands-wanted i.what) ∙ operands.0);
            written = sym (list_all-map is_written (λ (w : Ty × Operand). w.1) (inst_wants i.what)) ∙ (ap (list_all is_written) (operands-wanted i.what) ∙ written);
          }

      does-same : (i : Inst) → StepKeeps m K R fit.func p (InstAt i) → step_in_range m fit.func (InstAt i) ≡ true → list_all is_written (operands_of i.what) ≡ true → call_types_whole i.what ≡ true → kind_allows i.what ≡ true → does_apt m p env st i.result i.what ≡ does m p env st i.result i.what
      does-same i keeps range written c fa =
          let shape = and_parts (kind_agrees i.what) (result_agrees fit.func i.result (result_type i.what)) keeps.shape in
          let o = wants-keep i keeps range written in
          values-same (values_of env (operands_of i.what)) (map (λ (w : Ty × Operand). w.0) (inst_wants i.what)) _ _
          (subst (λ q. MayBeAll m here (map (λ (w : Ty × Operand). w.0) (inst_wants i.what)) (values_of env q)) (operands-wanted i.what) (wanted-of m here fit.func env (inst_wants i.what) fit.values o))
          (λ vs h. performs-same i.result i.what shape.0 fa c vs h)

      allowed-at : flags_allowed (step_of_point fit.func p) ≡ true
      allowed-at = module-passes (λ f s. flags_allowed s) m p fit.func numbered.flags refl fit.is

      pub move-same : move_apt m p env st ≡ move m p env st
      unfolding move_apt move
      move-same =
          let at = step-here fit.func p fit.block fit.here in
          let line : step_in_module m p ≡ step_at fit.block p.index = step-in m p fit.func fit.is ∙ at in
          by-step fit.block p.index fit.from fit.to (step_apt m p env st (step_in_module m p) ≡ step_move m p env st (step_in_module m p))
          (λ i found s more.
          subst (λ q. step_apt m p env st q ≡ step_move m p env st q) (sym (line ∙ s))
          (does-same i (step-keeps m limit typed p fit.func fit.is (InstAt i) (at ∙ s)) (subst (λ x. step_in_range m fit.func x ≡ true) (at ∙ s) (range-at m numbered p fit.func fit.is)) (subst (λ x. list_all is_written (step_operands x) ≡ true) (at ∙ s) (written-at m numbered p fit.func fit.is)) (subst (λ x. calls_whole x ≡ true) (at ∙ s) (whole-at m numbered p fit.func fit.is)) (subst (λ x. flags_allowed x ≡ true) (at ∙ s) allowed-at)))
          (λ s. subst (λ q. step_apt m p env st q ≡ step_move m p env st q) (sym (line ∙ s)) refl)
