-- What an instruction of an admitted module leads to, whatever answers are left.
use Rattle.std.proofs.Common.{◌≡◌, ◌∙◌, ℕ, Bool, true, false, Option, None, Some, List, [], ◌∷◌, ◌++◌, count_by, refl, sym, ap, subst}
use Rattle.std.specs.Prelude.{⊤, pos}
use Rattle.backend_api.specs.declared.operation.Answer.{Answer}
use Rattle.backend_api.specs.declared.operation.Op.{Op}
use Rattle.backend_api.specs.Operations.{is_result}
use Rattle.ir_module.specs.declared.tree.Module.{Module}
use Rattle.ir_module.specs.Numbered.{Numbered}
use Rattle.ir_values.specs.ClassTypes.{ClassTellsTypes}
use Rattle.ir_values.specs.declared.value.Value.{Value}
use Rattle.ir_values.specs.declared.value.Value.TheVariants as value
use Rattle.ir_values.specs.Int.{signed}
use Rattle.machine_frames.specs.code.Apt.{move_apt}
use Rattle.qir_machine.proofs.Aptly.{move-same}
use Rattle.qir_meaning.specs.Runs.{RunEnd, Returned, Trapped, Asks as AsksFor, Cut, bind_result}
use Rattle.qir_meaning.specs.State.{Move, next}
use Rattle.qir_meaning.specs.code.Steps.{Waiting, Ended, Jam, Whole, On, Off, gives_back, tick, tick_of}
use Rattle.type_check.specs.Faults.{Typed}
use Rattle.type_check.specs.Required.{required_qubits, required_results}
use Rattle.typed_runs.specs.Fits.{FitsAlways, TickFits, WholeFits}
use Rattle.typed_runs.specs.Laws.{InvariantHolds}
use Rattle.shots.proofs.Turning.{Asks, Turns, asks, comes_back, enters, event, goes, instruction-turns, is_for, results_for, stuck, traps, with_answers}

-- a whole state with these answers left
abbrev pub with_left : List Answer → Whole → Whole
with_left a w = record w { state = with_answers a w.state }

-- an operation is asked for, which takes an answer of its kind, and goes on from it; with another answer, or none, the run is over
pub record AsksAt (m : Module) (w : Whole) : Type 0 where
  pub op : Op
  pub measures : Bool
  pub sized : count_by is_result op.args ≡ results_for measures
  pub onward : Answer → Whole
  pub events : (x : Answer) → (onward x).state.events ≡ w.state.events ++ event op x ∷ []
  pub answered : (x : Answer) (a : List Answer) → is_for measures x ≡ true → tick m (with_left (x ∷ a) w) ≡ On (with_left a (onward x))
  pub other : (x : Answer) (a : List Answer) → is_for measures x ≡ false → tick m (with_left (x ∷ a) w) ≡ Off (Ended (AsksFor op) (with_answers (x ∷ a) w.state))
  pub none : tick m (with_left [] w) ≡ Off (Ended (AsksFor op) (with_answers [] w.state))

-- an end that the instruction itself brings
abbrev pub IsOwn : RunEnd → Type 0
IsOwn (Returned code) = ⊤
IsOwn (Trapped why) = ⊤
IsOwn (AsksFor op) = ⊥
IsOwn Cut = ⊥

pub data Ticks (m : Module) (w : Whole) : Type 0 where
  on : (u : Whole) → u.state.events ≡ w.state.events → ((a : List Answer) → tick m (with_left a w) ≡ On (with_left a u)) → Ticks m w
  ends : (e : RunEnd) → IsOwn e → ((a : List Answer) → tick m (with_left a w) ≡ Off (Ended e (with_answers a w.state))) → Ticks m w
  asks_at : AsksAt m w → Ticks m w

-- a whole state of the module fits, where handles are below its required numbers at this limit
abbrev pub Fits : Module → ℕ → Whole → Type 0
Fits m limit w = WholeFits m (required_qubits m limit) (required_results m limit) w

-- the answers that are left don't matter to it
pub refits : (m : Module) (limit : ℕ) (a : List Answer) (w : Whole) → Fits m limit w → Fits m limit (with_left a w)
refits m limit a w f = record {
  returns = f.returns;
  frame = f.frame;
  waits = f.waits;
  state = record { qubits = f.state.qubits; results = f.state.results; labels = f.state.labels; held = f.state.held };
}

module _ (m : Module) (limit : ℕ) (numbered : Numbered m) (typed : Typed m limit) (class_law : ClassTellsTypes) (law : InvariantHolds) where
  abbrev K : ℕ
  K = required_qubits m limit

  abbrev R : ℕ
  R = required_results m limit

  always : FitsAlways m K R
  unfolding InvariantHolds
  always = law m limit numbered typed

  kept : (w : Whole) → Fits m limit w → (a : List Answer) → TickFits m K R (tick m (with_left a w))
  kept w f a = always.kept (with_left a w) (refits m limit a w f)

  -- a state that follows fits
  pub fits-onward : (w : Whole) → Fits m limit w → (a b : List Answer) (u : Whole) → tick m (with_left a w) ≡ On (with_left b u) → Fits m limit u
  fits-onward w f a b u e = refits m limit u.state.answers (with_left b u) (subst (TickFits m K R) e (kept w f a))

  module _ (w : Whole) (f : Fits m limit w) where
    abbrev does : List Answer → Move
    does a = move_apt m w.at w.env (with_answers a w.state)

    does-same : (a : List Answer) → tick m (with_left a w) ≡ tick_of (with_left a w) (does a)
    unfolding tick
    does-same a = sym (ap (tick_of (with_left a w)) (move-same m limit numbered typed class_law w.at w.env (with_answers a w.state) (refits m limit a w f).returns (refits m limit a w f).frame))

    never-jams : tick m (with_left [] w) ≡ Off Jam → ⊥
    never-jams e = subst (TickFits m K R) e (kept w f [])

    -- a value comes back to the frame that waits, or the run is over
    back-to : (v : Option Value) (ws : List Waiting) → ((a : List Answer) → tick m (with_left a w) ≡ gives_back ws v (with_answers a w.state)) → Ticks m w
    back-to v (u ∷ us) e = on (record { at = u.at; env = bind_result u.env u.result v; waits = us; state = w.state }) refl e
    back-to None [] e = ends (Returned (pos 0)) tt e
    back-to (Some (value.Int i)) [] e = ends (Returned (signed i)) tt e
    back-to (Some v) [] e = absurd (never-jams (e []))

    asked : Asks w.state does → AsksAt m w
    asked x =
        let onward : Answer → Whole = λ y. record { at = x.point; env = x.env; waits = w.waits; state = x.after y } in
        record {
          op = x.op;
          measures = x.measures;
          sized = x.sized;
          onward = onward;
          events = x.events;
          answered = λ y a k. does-same (y ∷ a) ∙ ap (tick_of (with_left (y ∷ a) w)) (x.answered y a k);
          other = λ y a k. does-same (y ∷ a) ∙ ap (tick_of (with_left (y ∷ a) w)) (x.other y a k);
          none = does-same [] ∙ ap (tick_of (with_left [] w)) x.none;
        }

    by-turns : Turns w.state does → Ticks m w
    by-turns (goes p env st same e) = on (record { at = p; env = env; waits = w.waits; state = st }) same (λ a. does-same a ∙ ap (tick_of (with_left a w)) (e a))
    by-turns (enters p env x e) =
        on (record { at = p; env = env; waits = (record { at = next w.at; env = w.env; result = x }) ∷ w.waits; state = w.state }) refl (λ a. does-same a ∙ ap (tick_of (with_left a w)) (e a))
    by-turns (comes_back v e) = back-to v w.waits (λ a. does-same a ∙ ap (tick_of (with_left a w)) (e a))
    by-turns (traps why e) = ends (Trapped why) tt (λ a. does-same a ∙ ap (tick_of (with_left a w)) (e a))
    by-turns (stuck e) = absurd (never-jams (does-same [] ∙ ap (tick_of (with_left [] w)) (e [])))
    by-turns (asks x) = asks_at (asked x)

    pub instruction-ticks : Ticks m w
    instruction-ticks = by-turns (instruction-turns w.state m w.at w.env)
