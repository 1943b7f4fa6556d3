-- From one instruction to a run.
use Rattle.std.proofs.Common.{◌≡◌, ◌∙◌, ℕ, zero, suc, ◌+◌, ◌-◌, ◌<◌, ◌≤◌, List, [], ◌∷◌, ◌++◌, map, refl, sym, ap, subst, arith, append_assoc, append-nil, ◌⊎◌, ⊎_elim}
use Rattle.std.proofs.Math.Nat.{eq-or-lt_of_le}
use Rattle.std.specs.Prelude.{Option, None, Some, Result, Ok, Err, IsSome, OnErr}
use Rattle.backend_api.specs.declared.operation.Answer.{Answer}
use Rattle.backend_api.specs.declared.operation.Event.{Event}
use Rattle.backend_api.specs.Backend.{BackendState}
use Rattle.ir_module.specs.declared.places.Point.{Point}
use Rattle.ir_module.specs.declared.tree.Module.{Module}
use Rattle.ir_module.specs.Entry.{Entry, entry_of}
use Rattle.ir_module.specs.Numbered.{Numbered}
use Rattle.ir_values.specs.ClassTypes.{ClassTellsTypes}
use Rattle.ir_values.specs.declared.value.Value.{Value}
use Rattle.ir_values.specs.declared.value.Value.TheVariants as value
use Rattle.machine_frames.specs.declared.flow.Flow.{Flow}
use Rattle.machine_frames.specs.declared.flow.Flow.TheVariants as flow
use Rattle.machine_frames.specs.Frames.{meant}
use Rattle.machine_frames.specs.code.Apt.{move_apt}
use Rattle.output_records.specs.declared.record.Record.{Record}
use Rattle.qir_machine.specs.declared.machine.Machine.{Machine}
use Rattle.qir_machine.specs.declared.run.Ended.{Ended}
use Rattle.qir_machine.specs.Heard.{answers_of, Caused, Heard}
use Rattle.qir_machine.specs.Runs.{Broken, HasMeaning, IsCutAt, Ran}
use Rattle.qir_machine.specs.code.Machines.{Begins, Does, DoesMove, Knows, state, whole_of}
use Rattle.qir_machine.proofs.Aptly.{move-same}
use Rattle.qir_machine.proofs.Hearing.{answers-append, caused-more, heard-more, heard-none}
use Rattle.qir_meaning.specs.declared.end.End.{End}
use Rattle.qir_meaning.specs.declared.end.End.TheVariants as end
use Rattle.qir_meaning.specs.Moves.{move}
use Rattle.qir_meaning.specs.Runs.{Cut, RunEnd, Runs, end_of}
use Rattle.qir_meaning.specs.State.{State, Move, Trap, Ask, Next, Enter, Back, Halt, Stuck}
use Rattle.qir_meaning.specs.code.Steps.{Waiting, Outcome, Ended as Over, Finished, Jam, returned, Whole, Tick, On, Off, tick_of, tick, run, gives_back, whole_start, goes}
use Rattle.qir_meaning.proofs.Forms.{run_of_entry, run-by-steps-is, steps-runs}
use Rattle.type_check.specs.Faults.{Typed}
use Rattle.type_check.specs.Required.{required_qubits, required_results}
use Rattle.typed_runs.specs.Fits.{FitsAlways, TickFits, WholeFits}
use Rattle.typed_runs.specs.Laws.{InvariantHolds}

run-step : (m : Module) (n k : ℕ) (w : Whole) → k ≡ suc n → run m k w ≡ goes (run m n) (tick_of w (move m w.at w.env w.state))
unfolding run tick
run-step m n k w e = ap (λ j. run m j w) e

run-none : (m : Module) (k : ℕ) (w : Whole) → k ≡ 0 → run m k w ≡ Over Cut w.state
unfolding run
run-none m k w e = ap (λ j. run m j w) e

module _ (m : Module) (entry : Entry) (is : entry_of m ≡ Some entry) where
  -- so many steps of the whole run with these answers
  abbrev from_start : ℕ → List Answer → Outcome
  from_start n a = run m n (whole_start entry a)

  -- the end of its steps is that of the run
  runs-of : (n : ℕ) (a : List Answer) (es : List Event) (rs : List Record) (e : RunEnd) → Finished (from_start n a) e es rs → Runs m a n es rs e
  runs-of n a es rs e h = steps-runs m a n es rs e (subst (λ o. Finished o e es rs) (sym (run-by-steps-is m n a (Some entry) is)) h)

-- no instruction of its own cuts a run
returned-not-cut : (v : Option Value) (st st' : State) → returned v st ≡ Over Cut st' → ⊥
returned-not-cut None st st' e = cc
returned-not-cut (Some (value.Int i)) st st' e = cc
returned-not-cut (Some v) st st' e = cc

off-same : (o p : Outcome) → Off o ≡ Off p → o ≡ p
off-same o p e = cc

tick-not-cut : (w : Whole) (mv : Move) (st : State) → tick_of w mv ≡ Off (Over Cut st) → ⊥
tick-not-cut w (Next p env st') st e = cc
tick-not-cut w (Enter q env x st') st e = cc
tick-not-cut w (Back v) st e = by-waits w.waits e
  where
    by-waits : (ws : List Waiting) → gives_back ws v w.state ≡ Off (Over Cut st) → ⊥
    by-waits [] e = returned-not-cut v w.state st (off-same (returned v w.state) (Over Cut st) e)
    by-waits (u ∷ ws) e = cc
tick-not-cut w (Halt (Trap why) st') st e = cc
tick-not-cut w (Halt (Ask op) st') st e = cc
tick-not-cut w Stuck st e = cc

-- A run so far, after so many steps: whatever the backend answers from here on, it goes on as the machine does.
pub record Along (m : Module) (limit used : ℕ) (s : Machine) (old now : BackendState) : Type 0 where
  pub entry : Entry
  pub is_entry : entry_of m ≡ Some entry
  pub new : List Event
  pub heard : Heard old now new
  pub knows : Knows s new
  pub measured : s.measured ≤ used
  pub fits : (a : List Answer) → WholeFits m (required_qubits m limit) (required_results m limit) (whole_of s a new)
  pub same : (k : ℕ) (a : List Answer) → run m (used + k) (whole_start entry (answers_of new ++ a)) ≡ run m k (whole_of s a new)
  pub cut : (n : ℕ) → n < used → (a : List Answer) → (st : State) × (run m n (whole_start entry (answers_of new ++ a)) ≡ Over Cut st)

-- at some limit
abbrev pub Going : Module → ℕ → Machine → BackendState → BackendState → Type 0
Going m used s old now = (limit : ℕ) × Typed m limit × Along m limit used s old now

module _ (m : Module) (limit : ℕ) (numbered : Numbered m) (typed : Typed m limit) (class_law : ClassTellsTypes) (law : InvariantHolds) where
  abbrev K : ℕ
  K = required_qubits m limit

  abbrev R : ℕ
  R = required_results m limit

  always : FitsAlways m K R
  unfolding InvariantHolds
  always = law m limit numbered typed

  pub along-start : (s : Machine) (b : BackendState) → Begins m s → Along m limit 0 s b b
  along-start s b h = record {
    entry = h.entry;
    is_entry = h.is_entry;
    new = [];
    heard = heard-none b;
    knows = h.knows;
    measured = let e = h.measured in omega arith;
    fits = λ a. subst (WholeFits m K R) (sym (h.whole a)) (always.starts h.entry a h.is_entry);
    same = λ k a. let e : 0 + k ≡ k = omega arith in ap (λ n. run m n (whole_start h.entry a)) e ∙ ap (run m k) (sym (h.whole a));
    cut = λ n lt a. absurd (omega arith);
  }

  -- where the state fits, what the code does is what the run does
  tick-apt : (w : Whole) → WholeFits m K R w → tick_of w (move_apt m w.at w.env w.state) ≡ tick m w
  unfolding tick
  tick-apt w f = ap (tick_of w) (move-same m limit numbered typed class_law w.at w.env w.state f.returns f.frame)

  module _ (used : ℕ) (s : Machine) (a b : BackendState) (h : Along m limit used s a b) where
    -- the tick, with the answers to these events first
    abbrev now : List Event → List Answer → Whole
    now new r = whole_of s (answers_of new ++ r) h.new

    answers-first : (new : List Event) (r : List Answer) → answers_of (h.new ++ new) ++ r ≡ answers_of h.new ++ (answers_of new ++ r)
    answers-first new r = ap (λ l. l ++ r) (answers-append h.new new) ∙ append_assoc (answers_of h.new) (answers_of new) r

    -- the whole run, one instruction further
    further : (n k : ℕ) (new : List Event) (r : List Answer) → n ≡ used + (k + 1) → run m n (whole_start h.entry (answers_of (h.new ++ new) ++ r)) ≡ goes (run m k) (tick_of (now new r) (move_apt m s.frames.at s.frames.env (now new r).state))
    unfolding tick
    further n k new r e =
        let f : k + 1 ≡ suc k = omega arith in
        ap (λ l. run m n (whole_start h.entry l)) (answers-first new r)
        ∙ ap (λ j. run m j (whole_start h.entry (answers_of h.new ++ (answers_of new ++ r)))) e
        ∙ h.same (k + 1) (answers_of new ++ r)
        ∙ run-step m k (k + 1) (now new r) f
        ∙ ap (goes (run m k)) (sym (tick-apt (now new r) (h.fits (answers_of new ++ r))))

    -- before the next instruction the run is cut, also at each bound before
    cut-until : (n : ℕ) → n ≤ used → (new : List Event) (r : List Answer) → (st : State) × (run m n (whole_start h.entry (answers_of (h.new ++ new) ++ r)) ≡ Over Cut st)
    cut-until n le new r = ⊎_elim
        (λ e. (
          (now new r).state,
          ap (λ l. run m n (whole_start h.entry l)) (answers-first new r)
              ∙ ap (λ j. run m j (whole_start h.entry (answers_of h.new ++ (answers_of new ++ r)))) (sym (plus-none n used e))
              ∙ h.same 0 (answers_of new ++ r)
              ∙ run-none m 0 (now new r) refl,
        ))
        (λ lt. let c = h.cut n lt (answers_of new ++ r) in (c.0, ap (λ l. run m n (whole_start h.entry l)) (answers-first new r) ∙ c.1))
        (eq-or-lt_of_le le)
      where
        plus-none : (i j : ℕ) → i ≡ j → j + 0 ≡ i
        plus-none i j e = omega arith

    pub along-step : (s' : Machine) (c : BackendState) → Does s s' flow.Goes b c (λ st. move_apt m s.frames.at s.frames.env st) → s'.measured ≤ s.measured + 1 → Along m limit (used + 1) s' a c
    along-step s' c d le = record {
      entry = h.entry;
      is_entry = h.is_entry;
      new = h.new ++ d.new;
      heard = heard-more a b c h.new d.new h.heard d.heard;
      knows = (d.does [] h.new h.knows).0;
      measured = let l = h.measured in omega arith;
      fits = λ r. subst (TickFits m K R) (sym (tick-apt (now d.new r) (h.fits (answers_of d.new ++ r))) ∙ (d.does r h.new h.knows).1) (always.kept (now d.new r) (h.fits (answers_of d.new ++ r)));
      same = λ k r. further ((used + 1) + k) k d.new r (omega arith) ∙ ap (goes (run m k)) (d.does r h.new h.knows).1;
      cut = λ n lt r. cut-until n (omega arith) d.new r;
    }

    -- the run up to an instruction that ends it, at every bound that lets it begin
    ended : (s' : Machine) (c : BackendState) (e : End) (d : Does s s' (flow.Ends e) b c (λ st. move_apt m s.frames.at s.frames.env st)) (n : ℕ) → used < n → Runs m (answers_of (h.new ++ d.new)) n (h.new ++ d.new) s'.records (meant e)
    ended s' c e d n lt =
        let k = n - (used + 1) in
        let all = answers_of (h.new ++ d.new) in
        let last : run m n (whole_start h.entry all) ≡ Over (meant e) (state s' [] (h.new ++ d.new)) =
        ap (λ l. run m n (whole_start h.entry l)) (sym (append-nil all))
        ∙ further n k d.new [] (omega arith)
        ∙ ap (λ l. goes (run m k) (tick_of (whole_of s l h.new) (move_apt m s.frames.at s.frames.env (state s l h.new)))) (append-nil (answers_of d.new))
        ∙ ap (goes (run m k)) (d.does h.new h.knows)
        in
        runs-of m h.entry h.is_entry n all (h.new ++ d.new) s'.records (meant e) (subst (λ o. Finished o (meant e) (h.new ++ d.new) s'.records) (sym last) (refl, refl, refl))

    cut-at : (n : ℕ) → n ≤ used → (new : List Event) → IsCutAt m (h.new ++ new) n
    cut-at n le new =
        let all = answers_of (h.new ++ new) in
        let c = cut-until n le new [] in
        (c.0.events, c.0.records, runs-of m h.entry h.is_entry n all c.0.events c.0.records Cut (subst (λ o. Finished o Cut c.0.events c.0.records) (sym (ap (λ l. run m n (whole_start h.entry l)) (sym (append-nil all)) ∙ c.1)) (refl, refl, refl)))

    not-cut : (s' : Machine) (c : BackendState) (e : End) (d : Does s s' (flow.Ends e) b c (λ st. move_apt m s.frames.at s.frames.env st)) → e ≡ end.Cut → ⊥
    not-cut s' c e d is =
        tick-not-cut (whole_of s (answers_of d.new) h.new) _ _ (d.does h.new h.knows ∙ ap (λ o. Off (Over (meant o) (state s' [] (h.new ++ d.new)))) is)

    pub along-end : (steps : ℕ) (s' : Machine) (c : BackendState) (e : End) → used < steps → Does s s' (flow.Ends e) b c (λ st. move_apt m s.frames.at s.frames.env st) → Ran m steps (record { records = s'.records; end = e; used = used + 1 }) a c
    along-end steps s' c e lt d = record {
      new = h.new ++ d.new;
      heard = heard-more a b c h.new d.new h.heard d.heard;
      caused = caused-more e a b c h.heard.can h.heard.faults d.caused;
      runs = ended s' c e d steps lt;
      within = omega arith;
      all_used = λ is. absurd (not-cut s' c e d is);
      enough = λ not. ended s' c e d (used + 1) (omega arith);
      needed = λ n few. cut-at n (omega arith) d.new;
    }

    -- where the machine's state fits no instruction is without a meaning
    pub along-lost : (s' : Machine) (c : BackendState) → Does s s' flow.Lost b c (λ st. move_apt m s.frames.at s.frames.env st) → ⊥
    along-lost s' c d =
        let w = whole_of s (answers_of d.new) h.new in
        subst (TickFits m K R) (sym (tick-apt w (h.fits (answers_of d.new))) ∙ d.does h.new h.knows) (always.kept w (h.fits (answers_of d.new)))

    cut-now : Runs m (answers_of h.new) used h.new s.records Cut
    cut-now =
        let e : used + 0 ≡ used = omega arith in
        let last : run m used (whole_start h.entry (answers_of h.new)) ≡ Over Cut (state s [] h.new) =
        ap (λ l. run m used (whole_start h.entry l)) (sym (append-nil (answers_of h.new)))
        ∙ ap (λ j. run m j (whole_start h.entry (answers_of h.new ++ []))) (sym e)
        ∙ h.same 0 []
        ∙ run-none m 0 (whole_of s [] h.new) refl
        in
        runs-of m h.entry h.is_entry used (answers_of h.new) h.new s.records Cut (subst (λ o. Finished o Cut h.new s.records) (sym last) (refl, refl, refl))

    pub along-cut : (steps : ℕ) → used ≡ steps → Ran m steps (record { records = s.records; end = end.Cut; used = steps }) a b
    along-cut steps e = record {
      new = h.new;
      heard = h.heard;
      caused = tt;
      runs = subst (λ n. Runs m (answers_of h.new) n h.new s.records Cut) e cut-now;
      within = omega arith;
      all_used = λ is. refl;
      enough = λ not. absurd (not refl);
      needed = λ n few. subst (λ l. IsCutAt m l n) (append-nil h.new) (cut-at n (omega arith) []);
    }

    pub along-broken : (steps : ℕ) (c : BackendState) → used < steps → Heard b c [] → Broken m steps a c
    along-broken steps c lt k = record {
      new = h.new;
      heard = subst (Heard a c) (append-nil h.new) (heard-more a b c h.new [] h.heard k);
      used = used;
      within = omega arith;
      records = s.records;
      runs = cut-now;
    }

  pub broken-at-once : (steps : ℕ) (b : BackendState) → Broken m steps b b
  broken-at-once steps b = by-entry (entry_of m) refl always.entry
    where
      by-entry : (o : Option Entry) → entry_of m ≡ o → IsSome o → Broken m steps b b
      by-entry None e some = absurd (none-there some)
        where
          none-there : IsSome {T = Entry} None → ⊥
          none-there h = cc
      by-entry (Some entry) e some = record {
        new = [];
        heard = heard-none b;
        used = 0;
        within = omega arith;
        records = [];
        runs = runs-of m entry e 0 [] [] [] Cut (subst (λ o. Finished o Cut [] []) (sym (run-none m 0 (whole_start entry []) refl)) (refl, refl, refl));
      }
