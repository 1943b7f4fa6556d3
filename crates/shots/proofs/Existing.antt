-- An admitted module has a shot with each backend and each bound.
use Rattle.std.proofs.Common.{◌≡◌, ⊎_elim, ◌∙◌, ℕ, zero, suc, true, Option, None, Some, List, [], ◌∷◌, ◌++◌, refl, sym, ap, subst, append_assoc, append-nil}
use Rattle.std.specs.Prelude.{IsSome}
use Rattle.backend_api.specs.declared.operation.Answer.{Answer}
use Rattle.backend_api.specs.declared.operation.Event.{Event}
use Rattle.ir_module.specs.declared.tree.Module.{Module}
use Rattle.ir_module.specs.Entry.{Entry, entry_of}
use Rattle.ir_module.specs.Numbered.{Numbered}
use Rattle.ir_values.specs.ClassTypes.{ClassTellsTypes}
use Rattle.output_lines.specs.declared.last.Last.{Last}
use Rattle.output_lines.specs.declared.last.Last.TheVariants.{Code, Stop}
use Rattle.output_lines.specs.declared.last.StopName.{StopName}
use Rattle.output_lines.specs.declared.last.StopName.TheVariants as stop
use Rattle.qir_meaning.specs.Runs.{RunEnd, Returned, Trapped, Asks, Cut}
use Rattle.qir_meaning.specs.State.{State}
use Rattle.qir_meaning.specs.code.Steps.{Ended, Whole, On, run, tick, whole_start, goes}
use Rattle.qir_meaning.proofs.Bounds.{runs-from}
use Rattle.qir_meaning.proofs.Grow.{run-suc, run-zero}
use Rattle.type_check.specs.Faults.{Typed}
use Rattle.type_check.specs.Required.{required_qubits, required_results}
use Rattle.typed_runs.specs.Fits.{FitsAlways}
use Rattle.typed_runs.specs.Laws.{InvariantHolds}
use Rattle.shots.specs.declared.backend.Backend.{Backend}
use Rattle.shots.specs.Shots.{Gives, IsShot, Lacks, Shot, TellsEnd, answers_of}
use Rattle.shots.proofs.Backing.{Next, backend-next, gives-none}
use Rattle.shots.proofs.Ticking.{AsksAt, Fits, IsOwn, Ticks, asks_at, ends, fits-onward, instruction-ticks, on, with_left}
use Rattle.shots.proofs.Turning.{event, is_for, with_answers}

-- a shot from a whole state on
pub record From (b : Backend) (m : Module) (n : ℕ) (w : Whole) : Type 0 where
  pub new : List Event
  pub given : Gives b (w.state.events ++ new)
  pub end : RunEnd
  pub state : State
  pub runs : run m n (with_left (answers_of new) w) ≡ Ended end state
  pub events : state.events ≡ w.state.events ++ new
  pub last : Last
  pub told : TellsEnd b (w.state.events ++ new) end last

own-last : (b : Backend) (es : List Event) (e : RunEnd) → IsOwn e → (last : Last) × TellsEnd b es e last
own-last b es (Returned code) o = (Code code, refl)
own-last b es (Trapped why) o = (Stop (stop.Trap why), refl)
own-last b es (Asks op) o = absurd o
own-last b es Cut o = absurd o

module _ (b : Backend) (m : Module) (n : ℕ) (w : Whole) where
  abbrev h : List Event
  h = w.state.events

  -- the run is over with nothing more
  over : (k : ℕ) (e : RunEnd) (last : Last) → Gives b h → run m k (with_left [] w) ≡ Ended e (with_answers [] w.state) → TellsEnd b h e last → From b m k w
  over k e last g r t = record {
    new = [];
    given = subst (Gives b) (sym (append-nil h)) g;
    end = e;
    state = with_answers [] w.state;
    runs = r;
    events = sym (append-nil h);
    last = last;
    told = subst (λ l. TellsEnd b l e last) (sym (append-nil h)) t;
  }

  -- an instruction leads on
  further : (u : Whole) → u.state.events ≡ h → ((a : List Answer) → tick m (with_left a w) ≡ On (with_left a u)) → From b m n u → From b m (suc n) w
  further u same t r = record {
    new = r.new;
    given = subst (λ l. Gives b (l ++ r.new)) same r.given;
    end = r.end;
    state = r.state;
    runs = run-suc m n (with_left (answers_of r.new) w) ∙ ap (goes (run m n)) (t (answers_of r.new)) ∙ r.runs;
    events = r.events ∙ ap (λ l. l ++ r.new) same;
    last = r.last;
    told = subst (λ l. TellsEnd b (l ++ r.new) r.end r.last) same r.told;
  }

  -- an operation was answered
  answered-further : (x : AsksAt m w) (y : Answer) → is_for x.measures y ≡ true → From b m n (x.onward y) → From b m (suc n) w
  answered-further x y k r =
      let e : (x.onward y).state.events ++ r.new ≡ h ++ event x.op y ∷ r.new = ap (λ l. l ++ r.new) (x.events y) ∙ append_assoc h (event x.op y ∷ []) r.new in
      record {
        new = event x.op y ∷ r.new;
        given = subst (Gives b) e r.given;
        end = r.end;
        state = r.state;
        runs = run-suc m n (with_left (y ∷ answers_of r.new) w) ∙ ap (goes (run m n)) (x.answered y (answers_of r.new) k) ∙ r.runs;
        events = r.events ∙ e;
        last = r.last;
        told = subst (λ l. TellsEnd b l r.end r.last) e r.told;
      }

module _ (m : Module) (limit : ℕ) (numbered : Numbered m) (typed : Typed m limit) (class_law : ClassTellsTypes) (law : InvariantHolds) (b : Backend) where
  abbrev Fit : Whole → Type 0
  Fit w = Fits m limit w

  -- it goes on from each state that fits
  abbrev Goes : ℕ → Type 0
  Goes n = (w : Whole) → Fit w → Gives b w.state.events → From b m n w

  by-answer : (n : ℕ) (w : Whole) → Fit w → Gives b w.state.events → Goes n → (x : AsksAt m w) → Next b w.state.events x.op x.measures → From b m (suc n) w
  by-answer n w f g go x q =
      ⊎_elim
      (λ (y : (a : Answer) × (is_for x.measures a ≡ true) × Gives b (w.state.events ++ event x.op a ∷ [])).
      answered-further b m n w x y.0 y.1
      (go (x.onward y.0) (fits-onward m limit numbered typed class_law law w f (y.0 ∷ []) [] (x.onward y.0) (x.answered y.0 [] y.1)) (subst (Gives b) (sym (x.events y.0)) y.2)))
      (λ (y : (why : StopName) × Lacks b w.state.events x.op why).
      over b m n w (suc n) (Asks x.op) (Stop y.0) g (run-suc m n (with_left [] w) ∙ ap (goes (run m n)) x.none) (y.0, y.1, refl))
      q

  by-tick : (n : ℕ) (w : Whole) → Fit w → Gives b w.state.events → Goes n → Ticks m w → From b m (suc n) w
  by-tick n w f g go (on u same t) = further b m n w u same t (go u (fits-onward m limit numbered typed class_law law w f [] [] u (t [])) (subst (Gives b) (sym same) g))
  by-tick n w f g go (ends e own t) =
      let l = own-last b w.state.events e own in
      over b m n w (suc n) e l.0 g (run-suc m n (with_left [] w) ∙ ap (goes (run m n)) (t [])) l.1
  by-tick n w f g go (asks_at x) = by-answer n w f g go x (backend-next b w.state.events x.op x.measures x.sized g)

  from : (n : ℕ) → Goes n
  from zero w f g = over b m zero w zero Cut (Stop stop.Cut) g (run-zero m (with_left [] w)) refl
  from (suc n) w f g = by-tick n w f g (from n) (instruction-ticks m limit numbered typed class_law law w f)

  whole-shot : (n : ℕ) (entry : Entry) → entry_of m ≡ Some entry → From b m n (whole_start entry []) → (shot : Shot) × IsShot b m n shot
  whole-shot n entry is r =
      let shot : Shot = record { events = r.new; records = r.state.records; last = r.last } in
      (shot, record { given = r.given; end = r.end; runs = runs-from m entry is (answers_of r.new) n r.new r.state.records r.end r.state r.runs r.events refl; told = r.told })

  by-entry : (n : ℕ) → FitsAlways m (required_qubits m limit) (required_results m limit) → (o : Option Entry) → entry_of m ≡ o → (shot : Shot) × IsShot b m n shot
  by-entry n always None e = absurd (none-there (subst IsSome e always.entry))
    where
      none-there : IsSome {T = Entry} None → ⊥
      none-there q = cc
  by-entry n always (Some entry) e = whole-shot n entry e (from n (whole_start entry []) (always.starts entry [] e) (gives-none b))

  pub shot-exists : (n : ℕ) → (shot : Shot) × IsShot b m n shot
  unfolding InvariantHolds
  shot-exists n = by-entry n (law m limit numbered typed) (entry_of m) refl
