-- An admitted module has at most one shot with a backend and a bound.
use Rattle.std.proofs.Common.{◌≡◌, ◌∙◌, ℕ, zero, suc, Bool, true, false, Option, None, Some, List, [], ◌∷◌, ◌++◌, refl, sym, ap, subst, append_assoc, append-nil}
use Rattle.std.specs.Prelude.{IsSome}
use Rattle.std.proofs.lemmas.List.{append_cancel_left}
use Rattle.backend_api.specs.declared.operation.Answer.{Answer}
use Rattle.backend_api.specs.declared.operation.Event.{Event}
use Rattle.ir_module.specs.declared.tree.Module.{Module}
use Rattle.ir_module.specs.Entry.{Entry, entry_of}
use Rattle.ir_module.specs.Numbered.{Numbered}
use Rattle.ir_values.specs.ClassTypes.{ClassTellsTypes}
use Rattle.output_lines.specs.declared.last.Last.{Last}
use Rattle.output_lines.specs.declared.last.Last.TheVariants.{Stop}
use Rattle.output_records.specs.declared.record.Record.{Record}
use Rattle.qir_meaning.specs.Runs.{RunEnd, Returned, Trapped, Asks, Cut}
use Rattle.qir_meaning.specs.State.{State}
use Rattle.qir_meaning.specs.code.Steps.{Ended, Whole, Tick, On, Off, run, tick, whole_start, goes}
use Rattle.qir_meaning.proofs.Bounds.{run-from}
use Rattle.qir_meaning.proofs.Grow.{OutGrows, run-grows, run-suc, run-zero, same-ends}
use Rattle.type_check.specs.Faults.{Typed}
use Rattle.type_check.specs.Required.{required_qubits, required_results}
use Rattle.typed_runs.specs.Fits.{FitsAlways}
use Rattle.typed_runs.specs.Laws.{InvariantHolds}
use Rattle.shots.specs.declared.backend.Backend.{Backend}
use Rattle.shots.specs.Shots.{Gives, IsShot, Lacks, Shot, TellsEnd, answers_of}
use Rattle.shots.proofs.Backing.{never-lacks, same-answers, same-cause}
use Rattle.shots.proofs.Ticking.{AsksAt, Fits, IsOwn, Ticks, asks_at, ends, fits-onward, instruction-ticks, on, with_left}
use Rattle.shots.proofs.Turning.{event, is_for, with_answers}

nothing-more : {A : Type 0} (xs ys : List A) → xs ≡ xs ++ ys → ys ≡ []
nothing-more xs ys e = sym (append_cancel_left xs [] ys (append-nil xs ∙ e))

one-nothing : {A : Type 0} (x : A) (xs : List A) → x ∷ xs ≡ [] → ⊥
one-nothing x xs e = cc

first-one : {A : Type 0} (x y : A) (xs ys : List A) → x ∷ xs ≡ y ∷ ys → x ≡ y
first-one x y xs ys e = cc

-- a shot that goes on from a whole state with these events
pub record Goes (b : Backend) (m : Module) (n : ℕ) (w : Whole) (new : List Event) (end : RunEnd) (state : State) (last : Last) : Type 0 where
  pub given : Gives b (w.state.events ++ new)
  pub runs : run m n (with_left (answers_of new) w) ≡ Ended end state
  pub events : state.events ≡ w.state.events ++ new
  pub told : TellsEnd b (w.state.events ++ new) end last

-- what two of them have in common
pub record Same (new new' : List Event) (st st' : State) (k l : Last) : Type 0 where
  pub events : new ≡ new'
  pub records : st.records ≡ st'.records
  pub last : k ≡ l

-- the run is over where it is
pub record Stands (w : Whole) (e0 : RunEnd) (new : List Event) (end : RunEnd) (state : State) : Type 0 where
  pub end_is : e0 ≡ end
  pub nothing : new ≡ []
  pub records : w.state.records ≡ state.records

module _ (b : Backend) (m : Module) (n : ℕ) (w : Whole) (new : List Event) (end : RunEnd) (state : State) (last : Last) where
  abbrev h : List Event
  h = w.state.events

  abbrev left : Whole
  left = with_left (answers_of new) w

  stands : (e0 : RunEnd) (a : List Answer) → Ended e0 (with_answers a w.state) ≡ Ended end state → state.events ≡ h ++ new → Stands w e0 new end state
  stands e0 a e same =
      let s = same-ends (with_answers a w.state) state e0 end e in
      record {
        end_is = s.0;
        nothing = nothing-more h new (ap (λ (st : State). st.events) s.1 ∙ same);
        records = ap (λ (st : State). st.records) s.1;
      }

  -- one instruction less
  after-tick : (t : Tick) → tick m left ≡ t → Goes b m (suc n) w new end state last → goes (run m n) t ≡ Ended end state
  after-tick t e o = sym (ap (goes (run m n)) e) ∙ sym (run-suc m n left) ∙ o.runs

  onward : (u : Whole) → u.state.events ≡ h → tick m left ≡ On (with_left (answers_of new) u) → Goes b m (suc n) w new end state last → Goes b m n u new end state last
  onward u same t o = record {
    given = subst (λ l. Gives b (l ++ new)) (sym same) o.given;
    runs = after-tick (On (with_left (answers_of new) u)) t o;
    events = o.events ∙ ap (λ l. l ++ new) (sym same);
    told = subst (λ l. TellsEnd b (l ++ new) end last) (sym same) o.told;
  }

-- where an operation is asked for, the shot has no answer to it, or goes on with one
pub data Answering (b : Backend) (m : Module) (n : ℕ) (w : Whole) (x : AsksAt m w) (new : List Event) (end : RunEnd) (state : State) (last : Last) : Type 0 where
  without : Stands w (Asks x.op) new end state → Answering b m n w x new end state last
  with_one : (y : Answer) (rest : List Event) → new ≡ event x.op y ∷ rest → is_for x.measures y ≡ true → Goes b m n (x.onward y) rest end state last → Answering b m n w x new end state last

module _ (b : Backend) (m : Module) (n : ℕ) (w : Whole) (x : AsksAt m w) (end : RunEnd) (state : State) (last : Last) where
  -- the first event is that of the operation
  is-event : (y : Answer) (e : Event) (rest : List Event) → run m n (with_left (answers_of rest) (x.onward y)) ≡ Ended end state → state.events ≡ w.state.events ++ e ∷ rest → event x.op y ≡ e
  is-event y e rest r same =
      let v = with_left (answers_of rest) (x.onward y) in
      let grows = subst (OutGrows v.state) r (run-grows m n v) in
      let more : state.events ≡ (x.onward y).state.events ++ grows.0.0 = grows.0.1 in
      first-one (event x.op y) e grows.0.0 rest
      (append_cancel_left w.state.events (event x.op y ∷ grows.0.0) (e ∷ rest) (sym (append_assoc w.state.events (event x.op y ∷ []) grows.0.0) ∙ ap (λ l. l ++ grows.0.0) (sym (x.events y)) ∙ sym more ∙ same))

  by-kind : (e : Event) (rest : List Event) → Goes b m (suc n) w (e ∷ rest) end state last → (k : Bool) → is_for x.measures e.answer ≡ k → Answering b m n w x (e ∷ rest) end state last
  by-kind e rest o false k =
      let s = stands b m n w (e ∷ rest) end state last (Asks x.op) (e.answer ∷ answers_of rest) (after-tick b m n w (e ∷ rest) end state last (Off (Ended (Asks x.op) (with_answers (e.answer ∷ answers_of rest) w.state))) (x.other e.answer (answers_of rest) k) o) o.events in
      absurd (one-nothing e rest s.nothing)
  by-kind e rest o true k =
      let y = e.answer in
      let r : run m n (with_left (answers_of rest) (x.onward y)) ≡ Ended end state = after-tick b m n w (e ∷ rest) end state last (On (with_left (answers_of rest) (x.onward y))) (x.answered y (answers_of rest) k) o in
      let is : event x.op y ≡ e = is-event y e rest r o.events in
      let q : w.state.events ++ e ∷ rest ≡ (x.onward y).state.events ++ rest =
      ap (λ z. w.state.events ++ z ∷ rest) (sym is) ∙ sym (append_assoc w.state.events (event x.op y ∷ []) rest) ∙ ap (λ l. l ++ rest) (sym (x.events y)) in
      with_one y rest (ap (λ z. z ∷ rest) (sym is)) k
      (record { given = subst (Gives b) q o.given; runs = r; events = o.events ∙ q; told = subst (λ l. TellsEnd b l end last) q o.told })

  pub answering : (new : List Event) → Goes b m (suc n) w new end state last → Answering b m n w x new end state last
  answering [] o = without (stands b m n w [] end state last (Asks x.op) [] (after-tick b m n w [] end state last (Off (Ended (Asks x.op) (with_answers [] w.state))) x.none o) o.events)
  answering (e ∷ rest) o = by-kind e rest o (is_for x.measures e.answer) refl

-- ---- the last lines

own-same : (b : Backend) (es fs : List Event) (e : RunEnd) (l k : Last) → IsOwn e → TellsEnd b es e l → TellsEnd b fs e k → l ≡ k
own-same b es fs (Returned code) l k o t u = t ∙ sym u
own-same b es fs (Trapped why) l k o t u = t ∙ sym u
own-same b es fs (Asks op) l k o t u = absurd o
own-same b es fs Cut l k o t u = absurd o

asks-same : (b : Backend) (es : List Event) (e : RunEnd) (op : _) (l k : Last) → Asks op ≡ e → TellsEnd b es e l → TellsEnd b es e k → l ≡ k
asks-same b es e op l k q t u =
    let t' : TellsEnd b es (Asks op) l = subst (λ z. TellsEnd b es z l) (sym q) t in
    let u' : TellsEnd b es (Asks op) k = subst (λ z. TellsEnd b es z k) (sym q) u in
    t'.2 ∙ ap Stop (same-cause b es op t'.0 u'.0 t'.1 u'.1) ∙ sym u'.2

module _ (m : Module) (limit : ℕ) (numbered : Numbered m) (typed : Typed m limit) (class_law : ClassTellsTypes) (law : InvariantHolds) (b : Backend) where
  abbrev Fit : Whole → Type 0
  Fit w = Fits m limit w

  -- two of them are one
  abbrev AreOne : ℕ → Type 0
  AreOne n =
      (w : Whole) → Fit w → (xs ys : List Event) (d e : RunEnd) (s t : State) (k l : Last)
      → Goes b m n w xs d s k → Goes b m n w ys e t l → Same xs ys s t k l

  module _ (n : ℕ) (w : Whole) (fit : Fit w) (go : AreOne n) (xs ys : List Event) (d e : RunEnd) (s t : State) (k l : Last) (o : Goes b m (suc n) w xs d s k) (q : Goes b m (suc n) w ys e t l) where
    both-end : (e0 : RunEnd) → IsOwn e0 → ((a : List Answer) → tick m (with_left a w) ≡ Off (Ended e0 (with_answers a w.state))) → Same xs ys s t k l
    both-end e0 own tk =
        let x = stands b m n w xs d s k e0 (answers_of xs) (after-tick b m n w xs d s k (Off (Ended e0 (with_answers (answers_of xs) w.state))) (tk (answers_of xs)) o) o.events in
        let y = stands b m n w ys e t l e0 (answers_of ys) (after-tick b m n w ys e t l (Off (Ended e0 (with_answers (answers_of ys) w.state))) (tk (answers_of ys)) q) q.events in
        record {
          events = x.nothing ∙ sym y.nothing;
          records = sym x.records ∙ y.records;
          last = own-same b (w.state.events ++ xs) (w.state.events ++ ys) e0 k l own (subst (λ z. TellsEnd b (w.state.events ++ xs) z k) (sym x.end_is) o.told) (subst (λ z. TellsEnd b (w.state.events ++ ys) z l) (sym y.end_is) q.told);
        }

    -- one has an answer to the operation and the other has none
    never : (x : AsksAt m w) (zs us : List Event) (f : RunEnd) (j : Last) (y : Answer) (rest : List Event) → zs ≡ [] → Asks x.op ≡ f → TellsEnd b (w.state.events ++ zs) f j → us ≡ event x.op y ∷ rest → is_for x.measures y ≡ true → Gives b (w.state.events ++ us) → ⊥
    never x zs us f j y rest none is told more kind given =
        let told' : TellsEnd b (w.state.events ++ zs) (Asks x.op) j = subst (λ z. TellsEnd b (w.state.events ++ zs) z j) (sym is) told in
        never-lacks b w.state.events rest x.op x.measures y told'.0 x.sized kind (subst (λ z. Gives b (w.state.events ++ z)) more given)
        (subst (λ z. Lacks b z x.op told'.0) (ap (λ z. w.state.events ++ z) none ∙ append-nil w.state.events) told'.1)

    both-ask : (x : AsksAt m w) → Answering b m n w x xs d s k → Answering b m n w x ys e t l → Same xs ys s t k l
    both-ask x (without i) (without j) = record {
      events = i.nothing ∙ sym j.nothing;
      records = sym i.records ∙ j.records;
      last = asks-same b (w.state.events ++ xs) d x.op k l i.end_is o.told (subst (λ z. TellsEnd b z d l) (ap (λ z. w.state.events ++ z) (j.nothing ∙ sym i.nothing)) (subst (λ z. TellsEnd b (w.state.events ++ ys) z l) (sym j.end_is ∙ i.end_is) q.told));
    }
    both-ask x (without i) (with_one z rest is kind j) = absurd (never x xs ys d k z rest i.nothing i.end_is o.told is kind q.given)
    both-ask x (with_one z rest is kind i) (without j) = absurd (never x ys xs e l z rest j.nothing j.end_is q.told is kind o.given)
    both-ask x (with_one y rest is kind i) (with_one z more is' kind' j) =
        let same : y ≡ z = same-answers b w.state.events rest more x.op x.measures y z kind kind' (subst (λ r. Gives b (w.state.events ++ r)) is o.given) (subst (λ r. Gives b (w.state.events ++ r)) is' q.given) in
        let r = go (x.onward y) (fits-onward m limit numbered typed class_law law w fit (y ∷ []) [] (x.onward y) (x.answered y [] kind)) rest more d e s t k l i (subst (λ a. Goes b m n (x.onward a) more e t l) (sym same) j) in
        record { events = is ∙ ap (λ a. event x.op a ∷ rest) same ∙ ap (λ a. event x.op z ∷ a) r.events ∙ sym is'; records = r.records; last = r.last }

    by-tick : Ticks m w → Same xs ys s t k l
    by-tick (on u same tk) =
        go u (fits-onward m limit numbered typed class_law law w fit [] [] u (tk [])) xs ys d e s t k l (onward b m n w xs d s k u same (tk (answers_of xs)) o) (onward b m n w ys e t l u same (tk (answers_of ys)) q)
    by-tick (ends e0 own tk) = both-end e0 own tk
    by-tick (asks_at x) = both-ask x (answering b m n w x d s k xs o) (answering b m n w x e t l ys q)

  cut-same : (xs ys : List Event) (d e : RunEnd) (k l : Last) → Cut ≡ d → Cut ≡ e → TellsEnd b xs d k → TellsEnd b ys e l → k ≡ l
  cut-same xs ys d e k l p q t u =
      let t' : TellsEnd b xs Cut k = subst (λ z. TellsEnd b xs z k) (sym p) t in
      let u' : TellsEnd b ys Cut l = subst (λ z. TellsEnd b ys z l) (sym q) u in
      t' ∙ sym u'

  are-one : (n : ℕ) → AreOne n
  are-one zero w fit xs ys d e s t k l o q =
      let x = stands b m zero w xs d s k Cut (answers_of xs) (sym (run-zero m (with_left (answers_of xs) w)) ∙ o.runs) o.events in
      let y = stands b m zero w ys e t l Cut (answers_of ys) (sym (run-zero m (with_left (answers_of ys) w)) ∙ q.runs) q.events in
      record {
        events = x.nothing ∙ sym y.nothing;
        records = sym x.records ∙ y.records;
        last = cut-same (w.state.events ++ xs) (w.state.events ++ ys) d e k l x.end_is y.end_is o.told q.told;
      }
  are-one (suc n) w fit xs ys d e s t k l o q = by-tick n w fit (are-one n) xs ys d e s t k l o q (instruction-ticks m limit numbered typed class_law law w fit)

  abbrev shot_with : List Event → List Record → Last → Shot
  shot_with es rs l = record { events = es; records = rs; last = l }

  by-entry : (n : ℕ) (x y : Shot) → IsShot b m n x → IsShot b m n y → FitsAlways m (required_qubits m limit) (required_results m limit) → (o : Option Entry) → entry_of m ≡ o → x ≡ y
  by-entry n x y p q always None e = absurd (none-there (subst IsSome e always.entry))
    where
      none-there : IsSome {T = Entry} None → ⊥
      none-there h = cc
  by-entry n x y p q always (Some entry) e =
      let i = run-from m entry e (answers_of x.events) n x.events x.records p.end p.runs in
      let j = run-from m entry e (answers_of y.events) n y.events y.records q.end q.runs in
      let s = are-one n (whole_start entry []) (always.starts entry [] e) x.events y.events p.end q.end i.0 j.0 x.last y.last
      (record { given = p.given; runs = i.1; events = i.2; told = p.told }) (record { given = q.given; runs = j.1; events = j.2; told = q.told }) in
      ap (λ es. shot_with es x.records x.last) s.events ∙ ap (λ rs. shot_with y.events rs x.last) (sym i.3 ∙ s.records ∙ j.3) ∙ ap (shot_with y.events y.records) s.last

  pub shot-is-one : (n : ℕ) (x y : Shot) → IsShot b m n x → IsShot b m n y → x ≡ y
  unfolding InvariantHolds
  shot-is-one n x y p q = by-entry n x y p q (law m limit numbered typed) (entry_of m) refl
