-- An admitted module has its runs, which fit.
use Rattle.std.proofs.Common.{◌≡◌, ◌⊎◌, inl, inr, ⊎_elim, ℕ, suc, ◌+◌, ◌==◌, Bool, true, false, ◌&&◌, ◌||◌, not, cond, is_some, Option, None, Some, List, [], ◌∷◌, map, take, slice_get, refl, sym, ap, ◌∙◌, subst, arith, ◌<◌}
use Rattle.std.proofs.lemmas.Bool.{and_parts}
use Rattle.std.proofs.lemmas.List.Elements.{All-append, All-nil, All-same}
use Rattle.std.specs.Cmp.{unsigned_Decides}
use Rattle.std.specs.List.{All}
use Rattle.std.specs.Prelude.{pos}
use Rattle.ir_values.specs.Int.{signed}
use Rattle.backend_api.specs.declared.operation.Answer.{Answer}
use Rattle.backend_api.specs.declared.operation.Event.{Event}
use Rattle.backend_api.specs.Operations.{qubits_in, qubits_of, results_in, results_of}
use Rattle.ir_module.specs.declared.places.Spot.TheVariants as spot
use Rattle.ir_module.specs.declared.tree.Block.{Block}
use Rattle.ir_module.specs.declared.tree.Function.{Function}
use Rattle.ir_module.specs.declared.tree.Module.{Module}
use Rattle.ir_module.specs.Entry.{Entry, entry_from, entry_of, has_attribute, is_entry}
use Rattle.ir_module.specs.Numbered.{Numbered, is_void}
use Rattle.ir_values.specs.ClassTypes.{ClassTellsTypes, WordsTellTypes}
use Rattle.ir_values.specs.declared.ids.FuncId.{FuncId}
use Rattle.ir_values.specs.declared.ids.LocalId.{LocalId}
use Rattle.ir_values.specs.declared.int.Width.TheVariants.{W64}
use Rattle.ir_values.specs.declared.ty.Ty.{Ty}
use Rattle.ir_values.specs.declared.ty.Ty.TheVariants as ty
use Rattle.ir_values.specs.declared.value.Value.{Value}
use Rattle.ir_values.specs.declared.value.Value.TheVariants as value
use Rattle.output_records.specs.declared.record.Record.{Record}
use Rattle.qir_meaning.specs.Apart.{QubitBelow, ResultBelow, StaysBelow, of_end, qubits_of_run, results_of_run}
use Rattle.qir_meaning.specs.Moves.{move}
use Rattle.qir_meaning.specs.Runs.{RunEnd, Returned, Trapped, Cut, Runs, AlwaysRuns, bind_result, end_of, start}
use Rattle.qir_meaning.specs.State.{State, Env, Move, Next, Enter, Back, Halt, Stuck, Stop, Trap, Ask, bind}
use Rattle.qir_meaning.specs.code.Steps.{Waiting, Ended, Jam, returned, Whole, Tick, On, Off, gives_back, tick, tick_of, whole_start}
use Rattle.qir_meaning.proofs.Bounds.{one-run}
use Rattle.qir_meaning.proofs.Bridge.{Leads, IsInvariant, invariant-gives-runs, invariant-always-runs}
use Rattle.type_check.specs.declared.code.TypeCode.TheVariants as code
use Rattle.type_check.specs.Faults.{Typed, keeps_rule, on_function, where_entry}
use Rattle.type_check.specs.Required.{required_qubits, required_results}
use Rattle.type_check.specs.Rules.{is_entry_type, result_agrees}
use Rattle.type_check.specs.Typing.{same_type, local_type, is_of_type}
use Rattle.type_check.proofs.Equal.{same_type-is, is_void-is}
use Rattle.type_check.proofs.Facts.{keeps}
use Rattle.typed_runs.specs.Fits.{IsCode, LabelIn, LabelsIn, FrameFits, WaitFits, WaitsFit, StateFits, WholeFits, EndFits, TickFits, FitsAlways}
use Rattle.typed_runs.specs.Values.{Bounds, bounds_at, IsOf, EnvOf, AllOf, Gives}
use Rattle.typed_runs.proofs.Below.{StopBelow}
use Rattle.typed_runs.proofs.Moves.{Good}
use Rattle.typed_runs.proofs.Numbers.{function-facts, some-block}
use Rattle.typed_runs.proofs.Steps.{first-block, move-good}
use Rattle.typed_runs.proofs.Values.{waits-later, env-set, frame-of, local-has}

-- ---- the entry

entry-at : (n : ℕ) (f : Function) (fs : List Function) (e : Entry) (b : Bool) → is_entry f ≡ b → (entry_from (suc n) fs ≡ Some e → (i : ℕ) × (e.number ≡ suc n + i) × (slice_get fs i ≡ Some e.function) × (is_entry e.function ≡ true)) → cond b (Some (record { number = n; function = f })) (entry_from (suc n) fs) ≡ Some e → (i : ℕ) × (e.number ≡ n + i) × (slice_get (f ∷ fs) i ≡ Some e.function) × (is_entry e.function ≡ true)
entry-at n f fs e true t rest h =
    let q : ◌≡◌ {A = Entry} (record { number = n; function = f }) e = cc in
    let z : n ≡ e.number = ap (λ (x : Entry). x.number) q in
    let g : f ≡ e.function = ap (λ (x : Entry). x.function) q in
    (0, omega (arith, z), ap Some g, subst (λ x. is_entry x ≡ true) g t)
entry-at n f fs e false t rest h = let q = rest h in (suc q.0, omega (arith, q.1), q.2, q.3)

entry-from : (n : ℕ) (fs : List Function) (e : Entry) → entry_from n fs ≡ Some e → (i : ℕ) × (e.number ≡ n + i) × (slice_get fs i ≡ Some e.function) × (is_entry e.function ≡ true)
entry-from n [] e h = cc
entry-from n (f ∷ fs) e h = entry-at n f fs e (is_entry f) refl (entry-from (suc n) fs e) h

pub entry-is : (m : Module) (e : Entry) → entry_of m ≡ Some e → (slice_get m.funcs e.number ≡ Some e.function) × (is_entry e.function ≡ true)
unfolding entry_of
entry-is m e h = let q = entry-from 0 m.funcs e h in let z : e.number ≡ q.0 = omega (arith, q.1) in (ap (slice_get m.funcs) z ∙ q.2, q.3)

some-entry : (o : Option Entry) → is_some o ≡ true → (e : Entry) × (o ≡ Some e)
some-entry None h = cc
some-entry (Some e) h = (e, refl)

some-blocks : (o : Option (List Block)) (b : Bool) → (is_some o && b) ≡ true → (bs : List Block) × (o ≡ Some bs)
some-blocks None b h = cc
some-blocks (Some bs) b h = (bs, refl)

or-true : (a b : Bool) → (a || b) ≡ true → (a ≡ true) ⊎ (b ≡ true)
or-true true b e = inl refl
or-true false b e = inr e

entry-type : (n : ℕ) (f : Function) → (not (n == n) || is_entry_type f) ≡ true → (f.params ≡ 0) × IsCode f.ret
entry-type n f h =
    let h' = ⊎_elim (λ (e : not (n == n) ≡ true). let q = (unsigned_Decides n n).1 refl in absurd (differ (n == n) q e)) (λ (e : is_entry_type f ≡ true). e) (or-true (not (n == n)) (is_entry_type f) h) in
    let p = and_parts (f.params == 0) (same_type f.ret (ty.Int W64) || is_void f.ret) h' in (
      (unsigned_Decides f.params 0).0 p.0,
      ⊎_elim (λ (e : same_type f.ret (ty.Int W64) ≡ true). inl (same_type-is f.ret (ty.Int W64) e)) (λ (e : is_void f.ret ≡ true). inr (is_void-is f.ret e)) (or-true (same_type f.ret (ty.Int W64)) (is_void f.ret) p.1),
    )
  where
    differ : (b : Bool) → b ≡ true → not b ≡ true → ⊥
    differ true e h = cc
    differ false e h = cc

-- ---- frames that wait

module _ (m : Module) (bs : Bounds) where
  bound : (f : Function) (env : Env) (y : Option LocalId) (u : Ty) (v : Value) → result_agrees f y u ≡ true → EnvOf m bs f.locals env → IsOf m bs u v → EnvOf m bs f.locals (bind env y v)
  bound f env None u v e h i = h
  bound f env (Some y) u v e h i = env-set m bs f.locals env y.0 u (Some v) h (local-has m bs (local_type f y) u (and_parts (is_of_type (local_type f y) u) (not (is_void u)) e).0) i

  goes-on : (w : Waiting) (t : Ty) (fits : FrameFits m bs w.at w.env t) (env : Env) → EnvOf m bs fits.func.locals env → FrameFits m bs w.at env t
  goes-on w t fits env h = record { func = fits.func; is = fits.is; block = fits.block; here = fits.here; from = fits.from; to = fits.to; values = h; returns = fits.returns }

  -- the frame that waits goes on with the value that comes back
  resumes : (w : Waiting) (u t : Ty) (v : Option Value) → WaitFits m bs u w t → Gives m bs u v → FrameFits m bs w.at (bind_result w.env w.result v) t
  resumes w u t None h g = h.fits
  resumes w u t (Some v) h g = goes-on w t h.fits (bind w.env w.result v) (bound h.fits.func w.env w.result u v h.named h.fits.values g)

module _ (m : Module) (k r : ℕ) where
  none-done : (a : List Answer) → StateFits m k r (start a)
  none-done a = record { qubits = All-nil (QubitBelow k); results = All-nil (ResultBelow r); labels = All-nil (λ (x : Record). LabelIn m x.label); held = All-nil (λ (j : ℕ). j < 0) }

  -- an end that names nothing
  names-none : (e : RunEnd) → of_end qubits_of e ≡ [] → of_end results_of e ≡ [] → EndFits m k r e
  names-none e h i = record { qubits = All-same (QubitBelow k) (of_end qubits_of e) [] h (All-nil (QubitBelow k)); results = All-same (ResultBelow r) (of_end results_of e) [] i (All-nil (ResultBelow r)) }

  abbrev EndsFit : RunEnd → State → Type 0
  EndsFit e st = StateFits m k r st × EndFits m k r e

  code-int : (v : Value) (st : State) → IsOf m (bounds_at k r st) (ty.Int W64) v → StateFits m k r st → TickFits m k r (Off (returned (Some v) st))
  code-int (value.Int i) st h b = (b, names-none (Returned (signed i)) refl refl)
  code-int v st h b = absurd h

  no-void : (st : State) (v : Value) → IsOf m (bounds_at k r st) ty.Void v → ⊥
  no-void st v h = h

  returned-fits : (t : Ty) (v : Option Value) (st : State) → IsCode t → Gives m (bounds_at k r st) t v → StateFits m k r st → TickFits m k r (Off (returned v st))
  returned-fits t None st c h b = (b, names-none (Returned (pos 0)) refl refl)
  returned-fits t (Some v) st (inl e) h b = code-int v st (subst (λ u. IsOf m (bounds_at k r st) u v) e h) b
  returned-fits t (Some v) st (inr e) h b = absurd (no-void st v (subst (λ u. IsOf m (bounds_at k r st) u v) e h))

  back-fits : (ws : List Waiting) (t : Ty) (v : Option Value) (st : State) → WaitsFit m (bounds_at k r st) t ws → Gives m (bounds_at k r st) t v → StateFits m k r st → TickFits m k r (gives_back ws v st)
  back-fits [] t v st w h b = returned-fits t v st w h b
  back-fits (u ∷ us) t v st w h b = record { returns = w.0; frame = resumes m (bounds_at k r st) u t w.0 v w.1 h; waits = w.2; state = b }

  stop-fits : (stop : Stop) → StopBelow k r stop → EndFits m k r (end_of stop)
  stop-fits (Trap c) h = names-none (Trapped c) refl refl
  stop-fits (Ask op) h = record { qubits = h.qubits; results = h.results }

  move-fits : (w : Whole) (s : WholeFits m k r w) (mv : Move) → Good m k r w.at w.env s.returns w.state mv → TickFits m k r (tick_of w mv)
  move-fits w s (Next p env st) g = record { returns = s.returns; frame = g.1; waits = waits-later m k r w.state st g.0 s.returns w.waits s.waits; state = g.2 }
  move-fits w s (Enter q env x st) g = record { returns = g.1; frame = g.2; waits = (s.returns, g.3, waits-later m k r w.state st g.0 s.returns w.waits s.waits); state = g.4 }
  move-fits w s (Back v) g = back-fits w.waits s.returns v w.state s.waits g s.state
  move-fits w s (Halt stop st) g = (g.0, stop-fits stop g.1)
  move-fits w s Stuck g = g

  leads : (t : Tick) → TickFits m k r t → Leads (WholeFits m k r) EndsFit t
  leads (On w) h = h
  leads (Off (Ended e st)) h = h
  leads (Off Jam) h = h

  -- what always fits is an invariant
  pub invariant : FitsAlways m k r → IsInvariant m (WholeFits m k r) EndsFit
  invariant h =
      let e = some-entry (entry_of m) h.entry in
      record { entry = e.0; is_entry = e.1; starts = λ a. h.starts e.0 a e.1; cut = λ w s. (s.state, names-none Cut refl refl); kept = λ w s. leads (tick m w) (h.kept w s) }

  -- so each run has an end that fits
  module _ (always : FitsAlways m k r) (a : List Answer) (n : ℕ) (es : List Event) (rs : List Record) (e : RunEnd) (run : Runs m a n es rs e) where
    run-qubits : All (QubitBelow k) (qubits_of_run es e)
    run-qubits =
        let q = invariant-gives-runs m (WholeFits m k r) EndsFit (invariant always) a n in
        let one = one-run m a n q.state.events es q.state.records rs q.end e q.run run in
        All-append (QubitBelow k) (qubits_in es) (of_end qubits_of e) (All-same (QubitBelow k) (qubits_in es) (qubits_in q.state.events) (ap qubits_in (sym one.0)) q.ends.0.qubits) (subst (EndFits m k r) one.2 q.ends.1).qubits

    run-results : All (ResultBelow r) (results_of_run es e)
    run-results =
        let q = invariant-gives-runs m (WholeFits m k r) EndsFit (invariant always) a n in
        let one = one-run m a n q.state.events es q.state.records rs q.end e q.run run in
        All-append (ResultBelow r) (results_in es) (of_end results_of e) (All-same (ResultBelow r) (results_in es) (results_in q.state.events) (ap results_in (sym one.0)) q.ends.0.results) (subst (EndFits m k r) one.2 q.ends.1).results

    pub run-labels : LabelsIn m rs
    run-labels =
        let q = invariant-gives-runs m (WholeFits m k r) EndsFit (invariant always) a n in
        let one = one-run m a n q.state.events es q.state.records rs q.end e q.run run in
        All-same (λ (x : Record). LabelIn m x.label) rs q.state.records (sym one.1) q.ends.0.labels

  pub always-runs : FitsAlways m k r → AlwaysRuns m
  always-runs always = invariant-always-runs m (WholeFits m k r) EndsFit (invariant always)

  pub stays-below : FitsAlways m k r → StaysBelow m k r
  stays-below always = record { qubits = run-qubits always; results = run-results always }

module _ (m : Module) (limit : ℕ) (numbered : Numbered m) (typed : Typed m limit) (class_law : ClassTellsTypes) (word_law : WordsTellTypes) where
  abbrev K : ℕ
  K = required_qubits m limit

  abbrev R : ℕ
  R = required_results m limit

  tick-fits : (w : Whole) → WholeFits m K R w → TickFits m K R (tick m w)
  unfolding tick
  tick-fits w s = move-fits m K R w s (move m w.at w.env w.state) (move-good m limit numbered typed class_law word_law w.at w.env s.returns w.state s.state s.frame)

  -- ---- the start

  entry-rule : (e : Entry) → entry_of m ≡ Some e → slice_get m.funcs e.number ≡ Some e.function → (not (e.number == e.number) || is_entry_type e.function) ≡ true
  unfolding keeps_rule
  entry-rule e is at =
      let rule = keeps m limit typed (spot.Func (record { 0 = e.number })) code.EntrySignature in
      let here = subst (λ o. on_function o (where_entry (entry_of m) is_entry_type e.number) ≡ true) at rule in
      subst (λ o. where_entry o is_entry_type e.number e.function ≡ true) is here

  start-fits : (e : Entry) → entry_of m ≡ Some e → (a : List Answer) → WholeFits m K R (whole_start e a)
  start-fits e is a =
      let at = entry-is m e is in
      let bs = some-blocks e.function.blocks (has_attribute _ e.function.attrs) at.1 in
      let n = function-facts m numbered e.number e.function at.0 in
      let g : FuncId = record { 0 = e.number } in
      let c = first-block m limit numbered typed class_law word_law g e.function bs.0 at.0 bs.1 (some-block e.function.blocks bs.0 bs.1 n.bodies) in
      let type = entry-type e.number e.function (entry-rule e is at.0) in
      record {
        returns = e.function.ret;
        frame = record {
          func = e.function;
          is = at.0;
          block = c.0;
          here = c.1;
          from = omega (arith, c.2);
          to = omega arith;
          values = frame-of m (bounds_at K R (start a)) e.function.params e.function.locals [] n.params (subst (λ q. AllOf m (bounds_at K R (start a)) (map (λ l. l.1) (take q e.function.locals)) []) (sym type.0) tt);
          returns = refl;
        };
        waits = type.1;
        state = none-done m K R a;
      }

  has-entry : is_some (entry_of m) ≡ true
  unfolding keeps_rule
  has-entry = (and_parts (is_some (entry_of m)) true (keeps m limit typed spot.Module code.NoEntry)).0

  pub fits-always : FitsAlways m K R
  fits-always = record { entry = has-entry; starts = λ e a is. start-fits e is a; kept = tick-fits }
