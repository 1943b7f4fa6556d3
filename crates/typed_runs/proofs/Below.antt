-- Fixed numbers below the required ones, in what a run did and asks for.
use Rattle.std.proofs.Common.{◌≡◌, ℕ, Some, List, [], ◌∷◌, ◌++◌, flat_map, cond, count_by, Option, refl, ap, arith, ◌+◌, ◌<◌, ◌==◌, not}
use Rattle.std.proofs.lemmas.Grind.{flat_map-append}
use Rattle.std.proofs.lemmas.List.Sums.{sum_by-cons}
use Rattle.std.proofs.lemmas.List.Elements.{All-append, All-cons, All-filter, All-head, All-nil, All-same, All-tail}
use Rattle.std.specs.List.{All}
use Rattle.std.specs.Prelude.{⊤}
use Rattle.backend_api.specs.declared.operation.Answer.{Answer}
use Rattle.backend_api.specs.declared.operation.Arg.{Arg}
use Rattle.backend_api.specs.declared.operation.Arg.TheVariants as arg
use Rattle.backend_api.specs.declared.operation.Event.{Event}
use Rattle.backend_api.specs.declared.operation.Op.{Op}
use Rattle.backend_api.specs.declared.operation.QubitRef.{QubitRef}
use Rattle.backend_api.specs.declared.operation.ResultRef.{ResultRef}
use Rattle.backend_api.specs.Operations.{qubits_in, qubits_of, qubits_of_arg, results_in, results_of, results_of_arg}
use Rattle.ir_values.specs.declared.ty.Ty.{Ty}
use Rattle.ir_values.specs.declared.ty.Ty.TheVariants as ty
use Rattle.ir_values.specs.ClassTypes.{is_result_type}
use Rattle.qir_meaning.specs.Apart.{QubitBelow, ResultBelow}
use Rattle.qir_meaning.specs.Effects.{first_result}
use Rattle.qir_meaning.specs.State.{State, Stop, Trap, Ask, with_event, with_record, with_allocation, without}
use Rattle.typed_runs.specs.Fits.{LabelIn, StateFits}
use Rattle.ir_module.specs.declared.tree.Module.{Module}
use Rattle.ir_values.specs.declared.ids.GlobalId.{GlobalId}
use Rattle.output_records.specs.declared.record.Record.{Record}
use Rattle.output_records.specs.declared.record.Shown.{Shown}

module _ (k r : ℕ) where
  pub record AreBelow (qs : List QubitRef) (rs : List ResultRef) : Type 0 where
    pub qubits : All (QubitBelow k) qs
    pub results : All (ResultBelow r) rs

  abbrev pub OpBelow : Op → Type 0
  OpBelow op = AreBelow (qubits_of op) (results_of op)

  abbrev pub StopBelow : Stop → Type 0
  StopBelow (Trap c) = ⊤
  StopBelow (Ask op) = OpBelow op

  pub none-below : AreBelow [] []
  none-below = record { qubits = All-nil (QubitBelow k); results = All-nil (ResultBelow r) }

  pub more-below : (qs ps : List QubitRef) (rs ts : List ResultRef) → AreBelow qs rs → AreBelow ps ts → AreBelow (qs ++ ps) (rs ++ ts)
  more-below qs ps rs ts a b = record { qubits = All-append (QubitBelow k) qs ps a.qubits b.qubits; results = All-append (ResultBelow r) rs ts a.results b.results }

  same-below : (qs ps : List QubitRef) (rs ts : List ResultRef) → qs ≡ ps → rs ≡ ts → AreBelow ps ts → AreBelow qs rs
  same-below qs ps rs ts e f h = record { qubits = All-same (QubitBelow k) qs ps e h.qubits; results = All-same (ResultBelow r) rs ts f h.results }

  -- ---- arguments

  abbrev pub ArgOf : Ty → Arg → Type 0
  ArgOf (ty.Int w) (arg.Int i) = ⊤
  ArgOf ty.Double (arg.Double d) = ⊤
  ArgOf ty.Qubit (arg.Qubit q) = QubitBelow k q
  ArgOf ty.Res (arg.Res q) = ResultBelow r q
  ArgOf t a = ⊥

  abbrev pub ArgsOf : List Ty → List Arg → Type 0
  ArgsOf [] [] = ⊤
  ArgsOf [] (a ∷ as') = ⊥
  ArgsOf (t ∷ ts) [] = ⊥
  ArgsOf (t ∷ ts) (a ∷ as') = ArgOf t a × ArgsOf ts as'

  arg-below : (t : Ty) (a : Arg) → ArgOf t a → AreBelow (qubits_of_arg a) (results_of_arg a)
  arg-below (ty.Int w) (arg.Int i) h = none-below
  arg-below ty.Double (arg.Double d) h = none-below
  arg-below ty.Qubit (arg.Qubit q) h = record { qubits = All-cons (QubitBelow k) q [] h (All-nil (QubitBelow k)); results = All-nil (ResultBelow r) }
  arg-below ty.Res (arg.Res q) h = record { qubits = All-nil (QubitBelow k); results = All-cons (ResultBelow r) q [] h (All-nil (ResultBelow r)) }
  arg-below t a h = absurd h

  pub args-below : (ts : List Ty) (as' : List Arg) → ArgsOf ts as' → AreBelow (flat_map qubits_of_arg as') (flat_map results_of_arg as')
  args-below [] [] h = none-below
  args-below [] (a ∷ as') h = absurd h
  args-below (t ∷ ts) [] h = absurd h
  args-below (t ∷ ts) (a ∷ as') h =
      more-below (qubits_of_arg a) (flat_map qubits_of_arg as') (results_of_arg a) (flat_map results_of_arg as') (arg-below t a h.0) (args-below ts as' h.1)

  pub and-result : (as' : List Arg) (q : ResultRef) → AreBelow (flat_map qubits_of_arg as') (flat_map results_of_arg as') → ResultBelow r q → AreBelow (flat_map qubits_of_arg (as' ++ arg.Res q ∷ [])) (flat_map results_of_arg (as' ++ arg.Res q ∷ []))
  and-result as' q a h =
      same-below _ _ _ _ (flat_map-append qubits_of_arg as' (arg.Res q ∷ [])) (flat_map-append results_of_arg as' (arg.Res q ∷ []))
      (more-below (flat_map qubits_of_arg as') [] (flat_map results_of_arg as') (q ∷ []) a (record { qubits = All-nil (QubitBelow k); results = All-cons (ResultBelow r) q [] h (All-nil (ResultBelow r)) }))

  abbrev one-if : Ty → ℕ
  one-if t = cond (is_result_type t) 1 0

  -- a type before others that is that of no result
  not-counted : (t : Ty) (ts : List Ty) → one-if t ≡ 0 → count_by is_result_type (t ∷ ts) ≡ 1 → count_by is_result_type ts ≡ 1
  not-counted t ts z e = let s = sum_by-cons one-if t ts in omega (arith, s, z, e)

  result-at : (t : Ty) (ts : List Ty) (a : Arg) (as' : List Arg) → ArgOf t a → (count_by is_result_type ts ≡ 1 → (q : ResultRef) × (first_result as' ≡ Some q)) → count_by is_result_type (t ∷ ts) ≡ 1 → (q : ResultRef) × (first_result (a ∷ as') ≡ Some q)
  result-at (ty.Int w) ts (arg.Int i) as' h more e = more (not-counted (ty.Int w) ts refl e)
  result-at ty.Double ts (arg.Double d) as' h more e = more (not-counted ty.Double ts refl e)
  result-at ty.Qubit ts (arg.Qubit q) as' h more e = more (not-counted ty.Qubit ts refl e)
  result-at ty.Res ts (arg.Res q) as' h more e = (q, refl)
  result-at t ts a as' h more e = absurd h

  -- what a measurement takes has a result
  pub result-of : (ts : List Ty) (as' : List Arg) → ArgsOf ts as' → count_by is_result_type ts ≡ 1 → (q : ResultRef) × (first_result as' ≡ Some q)
  result-of [] as' h e = cc
  result-of (t ∷ ts) [] h e = absurd h
  result-of (t ∷ ts) (a ∷ as') h e = result-at t ts a as' h.0 (result-of ts as' h.1) e

-- ---- states

module _ (m : Module) (k r : ℕ) where
  -- what was done is the same
  pub same-done : {st st' : State} → StateFits m k r st → st'.events ≡ st.events → st'.records ≡ st.records → All (λ (j : ℕ). j < st'.allocated) st'.held → StateFits m k r st'
  same-done {st} {st'} h e f g =
      record {
        qubits = All-same (QubitBelow k) (qubits_in st'.events) (qubits_in st.events) (ap qubits_in e) h.qubits;
        results = All-same (ResultBelow r) (results_in st'.events) (results_in st.events) (ap results_in e) h.results;
        labels = All-same (λ (x : Record). LabelIn m x.label) st'.records st.records f h.labels;
        held = g;
      }

  more-held : (a : ℕ) (js : List ℕ) → All (λ (j : ℕ). j < a) js → All (λ (j : ℕ). j < a + 1) js
  more-held a [] h = All-nil (λ (j : ℕ). j < a + 1)
  more-held a (j ∷ js) h = let lt = All-head (λ (j : ℕ). j < a) j js h in All-cons (λ (j : ℕ). j < a + 1) j js (omega (arith, lt)) (more-held a js (All-tail (λ (j : ℕ). j < a) j js h))

  pub allocation-fits : (st : State) → StateFits m k r st → StateFits m k r (with_allocation st)
  allocation-fits st h =
      same-done h refl refl
      (All-append (λ (j : ℕ). j < st.allocated + 1) st.held (st.allocated ∷ []) (more-held st.allocated st.held h.held)
      (All-cons (λ (j : ℕ). j < st.allocated + 1) st.allocated [] (omega arith) (All-nil (λ (j : ℕ). j < st.allocated + 1))))

  pub release-fits : (st : State) (i : ℕ) → StateFits m k r st → StateFits m k r (without st i)
  release-fits st i h = same-done h refl refl (All-filter (λ (x : ℕ). not (x == i)) (λ (j : ℕ). j < st.allocated) st.held h.held)

  pub event-fits : (st : State) (op : Op) (a : Answer) (rest : List Answer) → StateFits m k r st → OpBelow k r op → StateFits m k r (with_event st op a rest)
  event-fits st op a rest h o =
      let e : Event = record { op = op; answer = a } in
      record {
        qubits = All-same (QubitBelow k) _ _ (flat_map-append (λ (e : Event). qubits_of e.op) st.events (e ∷ [])) (All-append (QubitBelow k) (qubits_in st.events) (qubits_of op ++ []) h.qubits (All-append (QubitBelow k) (qubits_of op) [] o.qubits (All-nil (QubitBelow k))));
        results = All-same (ResultBelow r) _ _ (flat_map-append (λ (e : Event). results_of e.op) st.events (e ∷ [])) (All-append (ResultBelow r) (results_in st.events) (results_of op ++ []) h.results (All-append (ResultBelow r) (results_of op) [] o.results (All-nil (ResultBelow r))));
        labels = h.labels;
        held = h.held;
      }

  pub record-fits : (st : State) (what : Shown) (label : Option GlobalId) → StateFits m k r st → LabelIn m label → StateFits m k r (with_record st (record { shown = what; label = label }))
  record-fits st what label h l =
      let x : Record = record { shown = what; label = label } in
      record {
        qubits = h.qubits;
        results = h.results;
        labels = All-append (λ (x : Record). LabelIn m x.label) st.records (x ∷ []) h.labels (All-cons (λ (x : Record). LabelIn m x.label) x [] l (All-nil (λ (x : Record). LabelIn m x.label)));
        held = h.held;
      }
