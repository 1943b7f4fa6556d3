-- One module follows another: a run as a row of whole states, and how two such rows go side by side.
use Rattle.std.specs.Prelude.{◌≡◌, ℕ, zero, suc, ◌+◌, ◌*◌, ◌≤◌, ◌<◌, List, Some}
use Rattle.backend_api.specs.declared.operation.Answer.{Answer}
use Rattle.ir_module.specs.declared.tree.Module.{Module}
use Rattle.ir_module.specs.Entry.{Entry, entry_of}
use Rattle.backend_api.specs.Naming.{Naming, named_events}
use Rattle.qir_meaning.specs.Naming.{named_end}
use Rattle.qir_meaning.specs.Runs.{RunEnd}
use Rattle.qir_meaning.specs.State.{State}
use Rattle.qir_meaning.specs.code.Steps.{Whole, Tick, On, Off, Ended, Jam, tick, whole_start}

-- l goes from v to u in j steps
abbrev pub GoesBy : Module → ℕ → Whole → Whole → Type 0
GoesBy l zero v u = v ≡ u
GoesBy l (suc j) v u = (v' : Whole) × (tick l v ≡ On v') × GoesBy l j v' u

-- what was done is the same under the naming
pub record Alike (N : Naming) (st st' : State) : Type 0 where
  pub events : named_events N st.events ≡ st'.events
  pub records : st.records ≡ st'.records

-- the run of l ends with the same end after j further steps
pub record EndsBy (N : Naming) (l : Module) (j : ℕ) (v : Whole) (e : RunEnd) (st : State) : Type 0 where
  pub before : Whole
  pub goes : GoesBy l j v before
  pub state : State
  pub ends : tick l before ≡ Off (Ended (named_end N e) state)
  pub alike : Alike N st state

-- the run of l goes on, at most four steps, to where it follows with another rank: without a step of l the rank falls, and each step
-- lets it rise by W
pub record FollowsOn (l : Module) (W : ℕ) (goes_on : ℕ → Whole → Type 0) (r : ℕ) (v : Whole) : Type 0 where
  pub steps : ℕ
  pub few : steps ≤ 4
  pub after : Whole
  pub goes : GoesBy l steps v after
  pub rank : ℕ
  pub falls : rank < r + steps * W
  pub follows : goes_on rank after

-- what l does where this is the next tick of m
abbrev pub Meets : Naming → Module → ℕ → (ℕ → Whole → Whole → Type 0) → ℕ → Whole → Tick → Type 0
Meets N l W goes_on r v (On w) = FollowsOn l W (λ r' v'. goes_on r' w v') r v
Meets N l W goes_on r v (Off (Ended e st)) = (j : ℕ) × (j < 4) × EndsBy N l j v e st
Meets N l W goes_on r v (Off Jam) = ⊥

-- For n steps of m from w the run of l from v does the same: at most four steps for each of m, and as many steps of m as the rank
-- says, fewer than W, while l stands still.
abbrev pub Follows : Naming → Module → Module → ℕ → ℕ → ℕ → Whole → Whole → Type 0
Follows N m l W zero r w v = Alike N w.state v.state × (r < W)
Follows N m l W (suc n) r w v = Alike N w.state v.state × (r < W) × Meets N l W (Follows N m l W n) r v (tick m w)

-- l follows m from the start, after at most sixteen steps of its own
pub record Started (N : Naming) (m l : Module) (W : ℕ) (w v : Whole) : Type 0 where
  pub steps : ℕ
  pub few : steps ≤ 16
  pub after : Whole
  pub goes : GoesBy l steps v after
  pub follows : (n : ℕ) → (r : ℕ) × Follows N m l W n r w after

-- it does so for every list of answers
pub record Simulation (m l : Module) (N : Naming) (W : ℕ) : Type 0 where
  pub entry : Entry
  pub lowered_entry : Entry
  pub is_entry : entry_of m ≡ Some entry
  pub is_lowered_entry : entry_of l ≡ Some lowered_entry
  pub started : (answers : List Answer) → Started N m l W (whole_start entry answers) (whole_start lowered_entry answers)
