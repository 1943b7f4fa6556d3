-- Calls of declared functions.
use Rattle.std.proofs.Common.{◌≡◌, inl, inr, ℕ, ◌+◌, Bool, true, false, cond, Option, None, Some, List, [], ◌∷◌, ◌++◌, length, refl, sym, ap, ◌∙◌, subst, arith}
use Rattle.std.proofs.lemmas.Bool.{and_parts}
use Rattle.std.proofs.lemmas.List.Sums.{sum_by-cons}
use Rattle.std.specs.Prelude.{if◌then◌else◌, ◌||◌, not, count_by, codes, is_some}
use Rattle.ir_module.specs.declared.tree.Function.{Function}
use Rattle.ir_module.specs.Classes.{class_of_function, type_words}
use Rattle.ir_module.specs.Numbered.{is_void}
use Rattle.ir_module.specs.Steps.{step_in_module}
use Rattle.ir_values.specs.declared.cause.Cause.{Cause}
use Rattle.ir_values.specs.declared.cause.Cause.TheVariants as cause
use Rattle.ir_values.specs.declared.class.Class.{Class}
use Rattle.ir_values.specs.declared.class.Class.TheVariants as class
use Rattle.ir_values.specs.declared.ids.FuncId.{FuncId}
use Rattle.ir_values.specs.declared.ids.LocalId.{LocalId}
use Rattle.ir_values.specs.declared.int.Width.TheVariants.{W1, W64}
use Rattle.ir_values.specs.declared.ty.Ty.{Ty}
use Rattle.ir_values.specs.declared.ty.Ty.TheVariants as ty
use Rattle.ir_values.specs.declared.value.Value.{Value}
use Rattle.ir_values.specs.declared.value.Value.TheVariants as value
use Rattle.ir_values.specs.Calls.{class_of, qis}
use Rattle.ir_values.specs.ClassTypes.{HasTypes, is_result_type}
use Rattle.ir_values.specs.Names.{name_text}
use Rattle.ir_values.specs.Types.{signature}
use Rattle.qir_meaning.specs.State.{next}
use Rattle.kept_items.specs.declared.item.Item.{Item}
use Rattle.kept_items.specs.declared.item.Item.TheVariants as item
use Rattle.kept_items.specs.declared.target.Kind.TheVariants as kind
use Rattle.kept_items.specs.declared.target.Target.{Target}
use Rattle.kept_items.specs.declared.target.Target.TheVariants.{Base, Adaptive}
use Rattle.kept_items.specs.declared.val.Val.{Val}
use Rattle.kept_items.specs.declared.val.Val.TheVariants.{Known, Dynamic}
use Rattle.kept_items.specs.Items.{bit_int}
use Rattle.kept_items.specs.Targets.{has_ints, is_base}
use Rattle.static_steps.specs.declared.phase.Phase.{Phase}
use Rattle.static_steps.specs.declared.phase.Phase.TheVariants as phase
use Rattle.static_steps.specs.declared.turn.Turn.{Turn}
use Rattle.static_steps.specs.declared.turn.Turn.TheVariants.{Bad, Lost}
use Rattle.static_steps.specs.declared.work.Work.{Work}
use Rattle.static_steps.specs.Calls.{class_turn, declared_turn}
use Rattle.static_steps.specs.Configurations.{Bounds, IsPhaseOf, IsValue, MayVary, Stands}
use Rattle.static_steps.specs.Operations.{after_irreversible, after_reversible, is_irreversible, is_res, issues, issues_in, measures, operates, operates_on, phase_after, returning_on, returning_turn, returns_in, same_truth, typed_args, one_more_arg, wrong_args}
use Rattle.static_steps.specs.Records.{count_output, int_output, outputs, result_output, value_output}
use Rattle.static_steps.specs.Results.{alloc_turn, both_bits, by_const, const_bit, equals, equal_turn, held_in, read_turn, reads, release_turn, releases, releases_known, without}
use Rattle.static_steps.specs.Settings.{Setting, bound, gives_dynamic, goes, passed, silent}
use Rattle.static_steps.specs.Values.{put_result}
use Rattle.type_check.specs.Rules.{result_agrees}
use Rattle.type_check.specs.Typing.{is_of_type, local_type}
use Rattle.valid_steps.specs.Items.{AreOperands, IsItem, IsOperand, IsOperation, gives, is_recorded, permits_record, types_of}
use Rattle.valid_steps.proofs.Numbers.{next-below, next-rises, without-below, without-rises}
use Rattle.valid_steps.proofs.Operands.{AreVals, by-known, by-one, by-two}
use Rattle.valid_steps.proofs.Turns.{IsGood, Named, advanced, follows-at, bound-names, bound-rises, dynamic-good, either-good, goes-good, kept-good, known-good, named, names-later, passed-good, passes}
use Rattle.valid_steps.proofs.Works.{Grows, IsWork, bounds_of, front, more-types, operand-later, same-bounds}

-- ---- targets and phases

unless-base : (t : Target) → is_base t ≡ false → MayVary t (ty.Int W1)
unless-base Base e = cc
unless-base (Adaptive caps) e = tt

after-output : (t : Target) (ph : Phase) → IsPhaseOf t ph → IsPhaseOf t (if is_base t then phase.Output else ph)
after-output Base ph h = tt
after-output (Adaptive caps) ph h = h

after-operation : (t : Target) (o : Option Phase) (old ph : Phase) → IsPhaseOf t old → (if is_base t then o else Some old) ≡ Some ph → IsPhaseOf t ph
after-operation Base o old ph h e = tt
after-operation (Adaptive caps) o old ph h e = let z : old ≡ ph = cc in subst (λ q. q ≡ phase.Begin) z h

-- the measurement that a returned result is issued as
measured : IsOperation (qis (codes "mz__body")) (ty.Qubit ∷ ty.Res ∷ [])
unfolding class_of
measured = inr refl

-- ---- results among arguments

counted : (u : Ty) (us : List Ty) → count_by is_result_type (u ∷ us) ≡ cond (is_result_type u) 1 0 + count_by is_result_type us
counted u us = sum_by-cons (λ w. cond (is_result_type w) 1 0) u us

no-results : (args : List (Ty × Val)) → count_by is_result_type (types_of args) ≡ 0 → measures args ≡ false
no-results [] e = refl
no-results (a ∷ rest) e = by-type a.0 (count_by is_result_type (types_of rest)) (sym (counted a.0 (types_of rest)) ∙ e) (λ z. no-results rest z)
  where
    by-type : (u : Ty) (n : ℕ) → cond (is_result_type u) 1 0 + n ≡ 0 → (n ≡ 0 → measures rest ≡ false) → (is_res u || measures rest) ≡ false
    by-type ty.Res n z ih = absurd (omega (arith, z))
    by-type u n z ih = ih (omega (arith, z))

one-result : (args : List (Ty × Val)) → count_by is_result_type (types_of args) ≡ 1 → measures args ≡ true
one-result [] e = absurd (omega (arith, e))
one-result (a ∷ rest) e = by-type a.0 (count_by is_result_type (types_of rest)) (sym (counted a.0 (types_of rest)) ∙ e) (λ z. one-result rest z)
  where
    by-type : (u : Ty) (n : ℕ) → cond (is_result_type u) 1 0 + n ≡ 1 → (n ≡ 1 → measures rest ≡ true) → (is_res u || measures rest) ≡ true
    by-type ty.Res n z ih = refl
    by-type u n z ih = ih (omega (arith, z))

module _ (s : Setting) (entry : FuncId) (k r : ℕ) (ts : List (Option Ty)) (now : IsWork s.m s.t s.live entry k r ts s.w)
    (stands : Stands (step_in_module s.m (next s.w.top.at))) (fresh : s.fresh.0 ≡ length ts) where
  abbrev here : Bounds
  here = bounds_of s.m s.t s.live entry k r s.w

  abbrev Is : Ty → Val → Type 0
  Is u a = IsOperand s.m s.t here ts u a

  abbrev Vals : List Ty → List Val → Type 0
  Vals us vs = AreVals s.m s.t here ts us vs

  -- ---- releases

  releases-known : (v : Value) → IsValue s.m here ty.Qubit v → IsGood s entry k r ts (releases_known s v)
  releases-known (value.Id i) h = tt
  releases-known (value.Alloc j) h =
      either-good s entry k r ts (held_in s.w.held j) (goes s (record (passed s) { held = without s.w.held j })) (Bad (kind.Traps cause.Released))
      (λ e. goes-good s entry k r ts (record (passed s) { held = without s.w.held j }) released (follows-at s entry k r ts (record (passed s) { held = without s.w.held j }) s.w.top.at.index refl (omega arith) (omega arith)))
      (λ e. tt)
    where
      released : IsWork s.m s.t s.live entry k r ts (record (passed s) { held = without s.w.held j })
      released =
          advanced s entry k r ts now stands ts s.w.top.names s.w.allocated s.w.returned (without s.w.held j) s.w.phase (same-bounds here ts) now.top.rises
          (names-later s entry k r ts now stands here ts (same-bounds here ts)) (without-below s.w.allocated j s.w.held now.held) (without-rises j s.w.held now.ordered) now.phase
  releases-known v h = absurd h

  release-good : (vs : List Val) → Vals (ty.Qubit ∷ []) vs → IsGood s entry k r ts (release_turn s vs)
  release-good vs h =
      by-one s.m s.t here ts (λ ws. IsGood s entry k r ts (release_turn s ws)) ty.Qubit vs h (λ a ha.
      by-known s.m s.t here ts (λ y. IsGood s entry k r ts (releases s y)) ty.Qubit refl a ha (λ v hv. releases-known v hv))

  -- ---- records

  outputs-good : (c : Class) (args : List (Ty × Val)) → IsItem s.m s.t here ts s.w.held (item.Output c args) → IsGood s entry k r ts (outputs s c (Some args))
  outputs-good c args h =
      kept-good s entry k r ts (item.Output c args) (record (passed s) { phase = if is_base s.t then phase.Output else s.w.phase })
      (passes s entry k r ts now stands (if is_base s.t then phase.Output else s.w.phase) (ts ++ []) (more-types here ts []) (after-output s.t s.w.phase now.phase))
      (follows-at s entry k r ts (record (passed s) { phase = if is_base s.t then phase.Output else s.w.phase }) s.w.top.at.index refl (omega arith) (omega arith)) h

  -- a count and its label
  count-good : (c : Class) → HasTypes c ty.Void (ty.Int W64 ∷ ty.Text ∷ []) → permits_record s.t c ≡ true
      → ((v : Value) (l : Val) → is_recorded c ((ty.Int W64, Known v) ∷ (ty.Text, l) ∷ []) ≡ true)
      → (vs : List Val) → Vals (ty.Int W64 ∷ ty.Text ∷ []) vs → IsGood s entry k r ts (count_output s c (ty.Int W64 ∷ ty.Text ∷ []) vs)
  count-good c types permitted recorded vs h =
      by-two s.m s.t here ts (λ ws. IsGood s entry k r ts (count_output s c (ty.Int W64 ∷ ty.Text ∷ []) ws)) (ty.Int W64) ty.Text vs h (λ a l ha hl. by-val a l ha hl)
    where
      by-val : (a l : Val) → Is (ty.Int W64) a → Is ty.Text l → IsGood s entry k r ts (count_output s c (ty.Int W64 ∷ ty.Text ∷ []) (a ∷ l ∷ []))
      by-val (Known v) l ha hl = outputs-good c ((ty.Int W64, Known v) ∷ (ty.Text, l) ∷ []) (types, (ha, (hl, tt)), permitted, recorded v l)
      by-val (Dynamic d) l ha hl = tt

  result-good : (vs : List Val) → Vals (ty.Res ∷ ty.Text ∷ []) vs → IsGood s entry k r ts (result_output s (ty.Res ∷ ty.Text ∷ []) vs)
  result-good vs h =
      by-two s.m s.t here ts (λ ws. IsGood s entry k r ts (result_output s (ty.Res ∷ ty.Text ∷ []) ws)) ty.Res ty.Text vs h (λ a l ha hl.
      by-known s.m s.t here ts (λ y. IsGood s entry k r ts (result_output s (ty.Res ∷ ty.Text ∷ []) (y ∷ l ∷ []))) ty.Res refl a ha (λ v hv. by-value v l hv hl))
    where
      by-value : (v : Value) (l : Val) → IsValue s.m here ty.Res v → Is ty.Text l → IsGood s entry k r ts (result_output s (ty.Res ∷ ty.Text ∷ []) (Known v ∷ l ∷ []))
      by-value value.One l hv hl = tt
      by-value value.Zero l hv hl = tt
      by-value (value.Id i) l hv hl = outputs-good class.ResRecord ((ty.Res, Known (value.Id i)) ∷ (ty.Text, l) ∷ []) ((refl, refl), (hv, (hl, tt)), refl, refl)
      by-value (value.Measured i) l hv hl = outputs-good class.ResRecord ((ty.Res, Known (value.Measured i)) ∷ (ty.Text, l) ∷ []) ((refl, refl), (hv, (hl, tt)), refl, refl)
      by-value v l hv hl = absurd hv

  value-good : (c : Class) (u : Ty) → HasTypes c ty.Void (u ∷ ty.Text ∷ []) → (is_base s.t ≡ false → permits_record s.t c ≡ true)
      → ((a l : Val) → is_recorded c ((u, a) ∷ (ty.Text, l) ∷ []) ≡ true)
      → (vs : List Val) → Vals (u ∷ ty.Text ∷ []) vs → IsGood s entry k r ts (value_output s c (u ∷ ty.Text ∷ []) vs)
  value-good c u types permitted recorded vs h =
      by-two s.m s.t here ts (λ ws. IsGood s entry k r ts (value_output s c (u ∷ ty.Text ∷ []) ws)) u ty.Text vs h (λ a l ha hl.
      either-good s entry k r ts (is_base s.t) (Bad kind.Forbidden) (outputs s c (Some ((u, a) ∷ (ty.Text, l) ∷ []))) (λ e. tt)
      (λ e. outputs-good c ((u, a) ∷ (ty.Text, l) ∷ []) (types, (ha, (hl, tt)), permitted e, recorded a l)))

  int-good : (vs : List Val) → Vals (ty.Int W64 ∷ ty.Text ∷ []) vs → IsGood s entry k r ts (int_output s (ty.Int W64 ∷ ty.Text ∷ []) vs)
  int-good vs h =
      by-two s.m s.t here ts (λ ws. IsGood s entry k r ts (int_output s (ty.Int W64 ∷ ty.Text ∷ []) ws)) (ty.Int W64) ty.Text vs h (λ a l ha hl.
      let out : Turn = outputs s class.IntRecord (Some ((ty.Int W64, a) ∷ (ty.Text, l) ∷ [])) in
      either-good s entry k r ts (is_base s.t) (Bad kind.Forbidden) (if has_ints s.t then out else Bad kind.Capability) (λ e. tt)
      (λ e.
      either-good s entry k r ts (has_ints s.t) out (Bad kind.Capability)
      (λ i. outputs-good class.IntRecord ((ty.Int W64, a) ∷ (ty.Text, l) ∷ []) ((refl, refl), (ha, (hl, tt)), i, refl))
      (λ i. tt)))

  -- ---- gates and measurements

  record TypedArgs (us : List Ty) (vs : List Val) : Type 0 where
    args : List (Ty × Val)
    are : typed_args us vs ≡ Some args
    types : types_of args ≡ us
    fit : AreOperands s.m s.t here ts args

  typed : (us : List Ty) (vs : List Val) → Vals us vs → TypedArgs us vs
  typed [] [] h = record { args = []; are = refl; types = refl; fit = tt }
  typed [] (v ∷ vs) h = absurd h
  typed (u ∷ us) [] h = absurd h
  typed (u ∷ us) (v ∷ vs) h =
      let q = typed us vs h.1 in record { args = (u, v) ∷ q.args; are = ap (one_more_arg u v) q.are; types = ap (λ l. u ∷ l) q.types; fit = (h.0, q.fit) }

  issued : (name : List ℕ) (irreversible : Bool) (args : List (Ty × Val)) → (wrong_args s.w.held args ≡ None → IsItem s.m s.t here ts s.w.held (item.Operation name args))
      → IsGood s entry k r ts (operates_on s name irreversible args)
  issued name irreversible args fits = by-cause (wrong_args s.w.held args) refl
    where
      by-phase : (o : Option Phase) → phase_after s irreversible ≡ o → wrong_args s.w.held args ≡ None → IsGood s entry k r ts (issues_in s o name args)
      by-phase None e n = tt
      by-phase (Some ph) e n =
          kept-good s entry k r ts (item.Operation name args) (record (passed s) { phase = ph })
          (passes s entry k r ts now stands ph (ts ++ []) (more-types here ts []) (after-operation s.t (if irreversible then after_irreversible s.w.phase else after_reversible s.w.phase) s.w.phase ph now.phase e))
          (follows-at s entry k r ts (record (passed s) { phase = ph }) s.w.top.at.index refl (omega arith) (omega arith)) (fits n)

      by-cause : (o : Option Cause) → wrong_args s.w.held args ≡ o → IsGood s entry k r ts (issues s o irreversible name args)
      by-cause (Some why) e = tt
      by-cause None e = by-phase (phase_after s irreversible) refl e

  operates-good : (name : List ℕ) (us : List Ty) (vs : List Val) (measurement irreversible : Bool) → Vals us vs
      → ((args : List (Ty × Val)) → types_of args ≡ us → same_truth measurement (measures args) ≡ true)
      → ((args : List (Ty × Val)) → types_of args ≡ us → AreOperands s.m s.t here ts args → wrong_args s.w.held args ≡ None → IsItem s.m s.t here ts s.w.held (item.Operation name args))
      → IsGood s entry k r ts (operates s name measurement irreversible (typed_args us vs))
  operates-good name us vs measurement irreversible h tells fits =
      let q = typed us vs h in
      subst (λ o. IsGood s entry k r ts (operates s name measurement irreversible o)) (sym q.are)
      (subst (λ o. IsGood s entry k r ts (if o then operates_on s name irreversible q.args else Lost)) (sym (tells q.args q.types))
      (issued name irreversible q.args (λ n. fits q.args q.types q.fit n)))

  module _ (x : Option LocalId) (ret : Ty) (agrees : result_agrees now.function x ret ≡ true) where
    name-of : (u : Ty) → ret ≡ u → Named now.function x u
    name-of u e = named now.function x u (subst (λ w. result_agrees now.function x w ≡ true) e agrees)

    -- a function that returns nothing gives no name
    silent-good : ret ≡ ty.Void → (go : Turn) → IsGood s entry k r ts go → IsGood s entry k r ts (silent x go)
    silent-good e go h = by-result x agrees
      where
        not-void : (u : Ty) → u ≡ ty.Void → not (is_void u) ≡ true → ⊥
        not-void ty.Void e h = cc
        not-void u e h = cc

        by-result : (y : Option LocalId) → result_agrees now.function y ret ≡ true → IsGood s entry k r ts (silent y go)
        by-result None a = h
        by-result (Some y) a = absurd (not-void ret e (and_parts (is_of_type (local_type now.function y) ret) (not (is_void ret)) a).1)

    alloc-good : ret ≡ ty.Qubit → IsGood s entry k r ts (alloc_turn s x)
    alloc-good e = goes-good s entry k r ts u work (follows-at s entry k r ts u s.w.top.at.index refl (omega arith) (omega arith))
      where
        a : Val
        a = Known (value.Alloc s.w.allocated)

        u : Work
        u = record (bound s x a) { allocated = s.w.allocated + 1; held = s.w.held ++ s.w.allocated ∷ [] }

        after : Bounds
        after = bounds_of s.m s.t s.live entry k r u

        grows : Grows here after ts ts
        grows = record { qubits = refl; results = refl; allocated = omega arith; returned = omega arith; types = λ i o e. e }

        work : IsWork s.m s.t s.live entry k r ts u
        work =
            advanced s entry k r ts now stands ts (put_result x a s.w.top.names) (s.w.allocated + 1) s.w.returned (s.w.held ++ s.w.allocated ∷ []) s.w.phase grows
            (bound-rises s entry k r ts now stands x ty.Qubit (name-of ty.Qubit e) a)
            (bound-names s entry k r ts now stands x ty.Qubit (name-of ty.Qubit e) after ts grows a (omega arith))
            (next-below s.w.allocated s.w.held now.held) (next-rises s.w.allocated s.w.held now.held now.ordered) now.phase

    -- the bits of constant results are known
    const-good : ret ≡ ty.Int W1 → (o : Option Bool) (i : Item) → gives i ≡ Some (ty.Int W1) ∷ [] → (is_base s.t ≡ false → o ≡ None → IsItem s.m s.t here ts s.w.held i)
        → IsGood s entry k r ts (by_const s x o i)
    const-good e (Some q) i g fits = known-good s entry k r ts now stands x (ty.Int W1) (name-of (ty.Int W1) e) (value.Int (bit_int q)) refl
    const-good e None i g fits =
        either-good s entry k r ts (is_base s.t) (Bad kind.Forbidden) (gives_dynamic s x i) (λ q. tt)
        (λ q. dynamic-good s entry k r ts now stands x (ty.Int W1) (name-of (ty.Int W1) e) fresh (unless-base s.t q) i g (fits q refl))

    read-good : ret ≡ ty.Int W1 → (vs : List Val) → Vals (ty.Res ∷ []) vs → IsGood s entry k r ts (read_turn s x vs)
    read-good e vs h =
        by-one s.m s.t here ts (λ ws. IsGood s entry k r ts (read_turn s x ws)) ty.Res vs h (λ a ha.
        by-known s.m s.t here ts (λ y. IsGood s entry k r ts (reads s x y)) ty.Res refl a ha (λ v hv. by-bit v hv (const_bit v) refl))
      where
        by-bit : (v : Value) → IsValue s.m here ty.Res v → (o : Option Bool) → const_bit v ≡ o → IsGood s entry k r ts (by_const s x o (item.Read s.fresh v))
        by-bit v hv o q = const-good e o (item.Read s.fresh v) refl (λ base n. (fresh, base, q ∙ n, hv))

    equal-good : ret ≡ ty.Int W1 → (vs : List Val) → Vals (ty.Res ∷ ty.Res ∷ []) vs → IsGood s entry k r ts (equal_turn s x vs)
    equal-good e vs h =
        by-two s.m s.t here ts (λ ws. IsGood s entry k r ts (equal_turn s x ws)) ty.Res ty.Res vs h (λ a c ha hc.
        by-known s.m s.t here ts (λ y. IsGood s entry k r ts (equals s x y c)) ty.Res refl a ha (λ v hv.
        by-known s.m s.t here ts (λ y. IsGood s entry k r ts (equals s x (Known v) y)) ty.Res refl c hc (λ u hu.
        const-good e (both_bits (const_bit v) (const_bit u)) (item.Equal s.fresh v u) refl (λ base n. (fresh, base, hv, hu)))))

    -- a measurement that returns its result
    returns-good : ret ≡ ty.Res → (vs : List Val) → Vals (ty.Qubit ∷ []) vs → IsGood s entry k r ts (returning_turn s x (typed_args (ty.Qubit ∷ []) vs))
    returns-good e vs h = by-one s.m s.t here ts (λ ws. IsGood s entry k r ts (returning_turn s x (typed_args (ty.Qubit ∷ []) ws))) ty.Qubit vs h (λ a ha. by-cause a ha (wrong_args s.w.held ((ty.Qubit, a) ∷ [])) refl)
      where
        q : Val
        q = Known (value.Measured s.w.returned)

        u : Phase → Work
        u ph = record (bound s x q) { returned = s.w.returned + 1; phase = ph }

        after : Bounds
        after = record { qubits = k; results = r; allocated = s.w.allocated; returned = s.w.returned + 1 }

        grows : Grows here after ts (ts ++ [])
        grows = record { qubits = refl; results = refl; allocated = omega arith; returned = omega arith; types = λ i o e. front ts [] i o e }

        same-types : Grows here after ts ts
        same-types = record { qubits = refl; results = refl; allocated = omega arith; returned = omega arith; types = λ i o e. e }

        work : (ph : Phase) → IsPhaseOf s.t ph → IsWork s.m s.t s.live entry k r (ts ++ []) (u ph)
        work ph h =
            advanced s entry k r ts now stands (ts ++ []) (put_result x q s.w.top.names) s.w.allocated (s.w.returned + 1) s.w.held ph grows
            (bound-rises s entry k r ts now stands x ty.Res (name-of ty.Res e) q)
            (bound-names s entry k r ts now stands x ty.Res (name-of ty.Res e) after (ts ++ []) grows q (omega arith))
            now.held now.ordered h

        by-phase : (a : Val) → Is ty.Qubit a → wrong_args s.w.held ((ty.Qubit, a) ∷ []) ≡ None → (o : Option Phase) → phase_after s true ≡ o → IsGood s entry k r ts (returns_in s x o ((ty.Qubit, a) ∷ []))
        by-phase a ha n None p = tt
        by-phase a ha n (Some ph) p =
            kept-good s entry k r ts (item.Operation (qis (codes "mz__body")) ((ty.Qubit, a) ∷ (ty.Res, q) ∷ [])) (u ph)
            (work ph (after-operation s.t (after_irreversible s.w.phase) s.w.phase ph now.phase p))
            (follows-at s entry k r ts (u ph) s.w.top.at.index refl (omega arith) (omega arith)) (measured, (operand-later s.m s.t here after ts ts same-types ty.Qubit a ha, (omega arith, tt)), n)

        by-cause : (a : Val) → Is ty.Qubit a → (o : Option Cause) → wrong_args s.w.held ((ty.Qubit, a) ∷ []) ≡ o → IsGood s entry k r ts (returning_on s x o ((ty.Qubit, a) ∷ []))
        by-cause a ha (Some why) n = tt
        by-cause a ha None n = by-phase a ha n (phase_after s true) refl

    -- ---- the classes, whose functions have their types

    module _ (f : Function) (us : List Ty) (words : type_words f ≡ signature ret us) where
      -- what an operation is by its name and types
      classed : (c : Class) → ret ≡ ty.Void → class_of_function f ≡ Some c → (vs : List Ty) → vs ≡ us → class_of (name_text f.name) (signature ty.Void vs) ≡ Some c
      classed c e d vs z = ap (λ ws. class_of (name_text f.name) ws) (ap (λ o. signature ty.Void o) z ∙ (ap (λ o. signature o us) (sym e) ∙ sym words)) ∙ d

      class-good : (c : Class) → HasTypes c ret us → class_of_function f ≡ Some c → (vs : List Val) → Vals us vs → IsGood s entry k r ts (class_turn s x f (name_text f.name) c us vs)
      class-good class.Init h d vs hv = silent-good h.0 (goes s (passed s)) (passed-good s entry k r ts now stands)
      class-good class.Count h d vs hv = silent-good h.0 (goes s (passed s)) (passed-good s entry k r ts now stands)
      class-good class.Alloc h d vs hv = alloc-good h.0
      class-good class.Release h d vs hv = silent-good h.0 (release_turn s vs) (release-good vs (subst (λ q. Vals q vs) h.1 hv))
      class-good class.One h d vs hv = known-good s entry k r ts now stands x ty.Res (name-of ty.Res h.0) value.One tt
      class-good class.Zero h d vs hv = known-good s entry k r ts now stands x ty.Res (name-of ty.Res h.0) value.Zero tt
      class-good class.Equal h d vs hv = equal-good h.0 vs (subst (λ q. Vals q vs) h.1 hv)
      class-good class.Read h d vs hv = read-good h.0 vs (subst (λ q. Vals q vs) h.1 hv)
      class-good class.Tuple h d vs hv =
          silent-good h.0 (count_output s class.Tuple us vs) (subst (λ q. IsGood s entry k r ts (count_output s class.Tuple q vs)) (sym h.1) (count-good class.Tuple (refl, refl) refl (λ v l. refl) vs (subst (λ q. Vals q vs) h.1 hv)))
      class-good class.Array h d vs hv =
          silent-good h.0 (count_output s class.Array us vs) (subst (λ q. IsGood s entry k r ts (count_output s class.Array q vs)) (sym h.1) (count-good class.Array (refl, refl) refl (λ v l. refl) vs (subst (λ q. Vals q vs) h.1 hv)))
      class-good class.ResRecord h d vs hv =
          silent-good h.0 (result_output s us vs) (subst (λ q. IsGood s entry k r ts (result_output s q vs)) (sym h.1) (result-good vs (subst (λ q. Vals q vs) h.1 hv)))
      class-good class.BoolRecord h d vs hv =
          silent-good h.0 (value_output s class.BoolRecord us vs) (subst (λ q. IsGood s entry k r ts (value_output s class.BoolRecord q vs)) (sym h.1) (value-good class.BoolRecord (ty.Int W1) (refl, refl) (λ e. ap not e) (λ a l. refl) vs (subst (λ q. Vals q vs) h.1 hv)))
      class-good class.IntRecord h d vs hv =
          silent-good h.0 (int_output s us vs) (subst (λ q. IsGood s entry k r ts (int_output s q vs)) (sym h.1) (int-good vs (subst (λ q. Vals q vs) h.1 hv)))
      class-good class.DoubleRecord h d vs hv =
          silent-good h.0 (value_output s class.DoubleRecord us vs) (subst (λ q. IsGood s entry k r ts (value_output s class.DoubleRecord q vs)) (sym h.1) (value-good class.DoubleRecord ty.Double (refl, refl) (λ e. ap not e) (λ a l. refl) vs (subst (λ q. Vals q vs) h.1 hv)))
      class-good class.Returning h d vs hv =
          subst (λ q. IsGood s entry k r ts (returning_turn s x (typed_args q vs))) (sym h.1) (returns-good h.0 vs (subst (λ q. Vals q vs) h.1 hv))
      class-good class.Measure h d vs hv =
          silent-good h.0 (operates s (name_text f.name) true true (typed_args us vs))
          (operates-good (name_text f.name) us vs true true hv
          (λ args e. one-result args (ap (λ q. count_by is_result_type q) e ∙ h.2))
          (λ args e fit n. (inr (classed class.Measure h.0 d (types_of args) e), fit, n)))
      class-good class.Gate h d vs hv =
          silent-good h.0 (operates s (name_text f.name) false (is_irreversible f class.Gate) (typed_args us vs))
          (operates-good (name_text f.name) us vs false (is_irreversible f class.Gate) hv
          (λ args e. ap (same_truth false) (no-results args (ap (λ q. count_by is_result_type q) e ∙ h.2)))
          (λ args e fit n. (inl (classed class.Gate h.0 d (types_of args) e), fit, n)))

      pub declared-good : (o : Option Class) → class_of_function f ≡ o → is_some o ≡ true → ((c : Class) → o ≡ Some c → HasTypes c ret us) → (vs : List Val) → Vals us vs → IsGood s entry k r ts (declared_turn s x f o us vs)
      declared-good None d known types vs hv = cc
      declared-good (Some c) d known types vs hv = class-good c (types c refl) d vs hv
