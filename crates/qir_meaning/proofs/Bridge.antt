-- What the crates above take from here to show a fact of runs. A fact on whole states that each tick keeps is an invariant,
-- and gives runs; a relation on whole states of two modules that each tick keeps is a simulation, and gives the same
-- behaviour. These are lemmas and no laws, since they speak of any fact and any relation.
use Rattle.std.proofs.Common.{◌≡◌, ℕ, zero, suc, ◌<◌, ◌≤◌, Some, List, refl, sym, subst}
use Rattle.backend_api.specs.declared.operation.Answer.{Answer}
use Rattle.backend_api.specs.Naming.{Naming}
use Rattle.ir_module.specs.declared.tree.Module.{Module}
use Rattle.ir_module.specs.Entry.{Entry, entry_of}
use Rattle.qir_meaning.specs.code.Simulation.{Alike, Meets, Follows, GoesBy, Simulation}
use Rattle.qir_meaning.specs.code.Steps.{Outcome, Ended, Jam, Whole, Tick, On, Off, run, tick, whole_start, goes}
use Rattle.qir_meaning.specs.Runs.{RunEnd, Cut, Runs, AlwaysRuns}
use Rattle.qir_meaning.specs.Same.{SameBehaviour}
use Rattle.qir_meaning.specs.State.{State}
use Rattle.qir_meaning.proofs.Behaviour.{same-behaviour}
use Rattle.qir_meaning.proofs.Bounds.{runs-from}
use Rattle.qir_meaning.proofs.Grow.{run-suc, run-zero}

-- ---- an invariant gives runs

-- what an instruction leads to: a state of which the fact holds, or an end of which another holds; it has a meaning
abbrev pub Leads : (Whole → Type 0) → (RunEnd → State → Type 0) → Tick → Type 0
Leads Holds Ends (On w) = Holds w
Leads Holds Ends (Off (Ended e st)) = Ends e st
Leads Holds Ends (Off Jam) = ⊥

-- the fact holds at the start, each tick keeps it, and where it holds a run that is cut ends well
pub record IsInvariant (m : Module) (Holds : Whole → Type 0) (Ends : RunEnd → State → Type 0) : Type 0 where
  pub entry : Entry
  pub is_entry : entry_of m ≡ Some entry
  pub starts : (answers : List Answer) → Holds (whole_start entry answers)
  pub cut : (w : Whole) → Holds w → Ends Cut w.state
  pub kept : (w : Whole) → Holds w → Leads Holds Ends (tick m w)

-- the module has a run, and of its end the fact holds
pub record RunsTo (m : Module) (answers : List Answer) (n : ℕ) (Ends : RunEnd → State → Type 0) : Type 0 where
  pub end : RunEnd
  pub state : State
  pub run : Runs m answers n state.events state.records end
  pub ends : Ends end state

module _ (m : Module) (Holds : Whole → Type 0) (Ends : RunEnd → State → Type 0) (inv : IsInvariant m Holds Ends) where
  abbrev Comes : Outcome → Type 0
  Comes o = Leads Holds Ends (Off o)

  goes-on : (n : ℕ) → ((w : Whole) → Holds w → Comes (run m n w)) → (t : Tick) → Leads Holds Ends t → Comes (goes (run m n) t)
  goes-on n ih (On w) h = ih w h
  goes-on n ih (Off o) h = h

  comes : (n : ℕ) (w : Whole) → Holds w → Comes (run m n w)
  comes zero w h = subst Comes (sym (run-zero m w)) (inv.cut w h)
  comes (suc n) w h = subst Comes (sym (run-suc m n w)) (goes-on n (comes n) (tick m w) (inv.kept w h))

  runs-to : (a : List Answer) (n : ℕ) (o : Outcome) → run m n (whole_start inv.entry a) ≡ o → Comes o → RunsTo m a n Ends
  runs-to a n (Ended e st) h c = record { end = e; state = st; run = runs-from m inv.entry inv.is_entry a n st.events st.records e st h refl refl; ends = c }
  runs-to a n Jam h c = absurd c

  -- a module with an invariant has a run with any answers and any bound, whose end is as the invariant says
  pub invariant-gives-runs : (a : List Answer) (n : ℕ) → RunsTo m a n Ends
  invariant-gives-runs a n = runs-to a n (run m n (whole_start inv.entry a)) refl (comes n (whole_start inv.entry a) (inv.starts a))

  pub invariant-always-runs : AlwaysRuns m
  invariant-always-runs a n = let r = invariant-gives-runs a n in (r.state.events, r.state.records, r.end, r.run)

-- ---- a relation that is kept gives the same behaviour

-- wherever the relation holds, both have done the same, the rank is below W, and l meets the next tick of m
pub record IsKept (N : Naming) (m l : Module) (W : ℕ) (R : ℕ → Whole → Whole → Type 0) : Type 0 where
  pub alike : (r : ℕ) (w v : Whole) → R r w v → Alike N w.state v.state
  pub rank : (r : ℕ) (w v : Whole) → R r w v → r < W
  pub meets : (r : ℕ) (w v : Whole) → R r w v → Meets N l W R r v (tick m w)

meets-more : (N : Naming) (l : Module) (W : ℕ) (R S : ℕ → Whole → Whole → Type 0) → ((r : ℕ) (w v : Whole) → R r w v → S r w v) → (r : ℕ) (v : Whole) (t : Tick) → Meets N l W R r v t → Meets N l W S r v t
meets-more N l W R S up r v (On w) h = record { steps = h.steps; few = h.few; after = h.after; goes = h.goes; rank = h.rank; falls = h.falls; follows = up h.rank w h.after h.follows }
meets-more N l W R S up r v (Off (Ended e st)) h = h
meets-more N l W R S up r v (Off Jam) h = h

-- where it holds, l follows m for any number of steps
pub follows-by : (N : Naming) (m l : Module) (W : ℕ) (R : ℕ → Whole → Whole → Type 0) → IsKept N m l W R → (n r : ℕ) (w v : Whole) → R r w v → Follows N m l W n r w v
follows-by N m l W R k zero r w v h = (k.alike r w v h, k.rank r w v h)
follows-by N m l W R k (suc n) r w v h =
    (k.alike r w v h, k.rank r w v h, meets-more N l W R (Follows N m l W n) (λ r w v h. follows-by N m l W R k n r w v h) r v (tick m w) (k.meets r w v h))

-- the relation holds behind at most sixteen steps of l from its start
pub record Enters (l : Module) (R : ℕ → Whole → Whole → Type 0) (w v : Whole) : Type 0 where
  pub steps : ℕ
  pub few : steps ≤ 16
  pub after : Whole
  pub goes : GoesBy l steps v after
  pub rank : ℕ
  pub holds : R rank w after

module _ (N : Naming) (m l : Module) (W : ℕ) (R : ℕ → Whole → Whole → Type 0) (kept : IsKept N m l W R) (e e' : Entry) (is : entry_of m ≡ Some e) (is' : entry_of l ≡ Some e') where
  pub relation-simulates : ((a : List Answer) → Enters l R (whole_start e a) (whole_start e' a)) → Simulation m l N W
  relation-simulates starts = record {
    entry = e;
    lowered_entry = e';
    is_entry = is;
    is_lowered_entry = is';
    started = λ a. let s = starts a in record { steps = s.steps; few = s.few; after = s.after; goes = s.goes; follows = λ n. (s.rank, follows-by N m l W R kept n s.rank (whole_start e a) s.after s.holds) };
  }

  pub relation-keeps-behaviour : ((a : List Answer) → Enters l R (whole_start e a) (whole_start e' a)) → SameBehaviour m l N W
  relation-keeps-behaviour starts = same-behaviour m l N W (relation-simulates starts)
