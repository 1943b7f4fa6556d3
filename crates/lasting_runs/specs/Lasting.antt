-- Runs that go on, and what runs do in time.
use Rattle.std.specs.Prelude.{◌≡◌, ◌≢◌, ◌↔◌, ℕ, ◌+◌, ◌*◌, List}
use Rattle.backend_api.specs.declared.operation.Answer.{Answer}
use Rattle.backend_api.specs.declared.operation.Event.{Event}
use Rattle.backend_api.specs.Naming.{Naming, named_events}
use Rattle.ir_module.specs.declared.tree.Module.{Module}
use Rattle.output_records.specs.declared.record.Record.{Record}
use Rattle.qir_meaning.specs.Naming.{named_end}
use Rattle.qir_meaning.specs.Runs.{RunEnd, Cut, Runs}
use Rattle.qir_meaning.specs.Same.{Prefix}

-- with these answers of the machine the run is cut at n steps: it goes on behind them
abbrev pub GoesOn : Module → List Answer → ℕ → Type 0
GoesOn m a n = (es : List Event) × (rs : List Record) × Runs m a n es rs Cut

-- it goes on behind any number of steps
abbrev pub LastsForEver : Module → List Answer → Type 0
LastsForEver m a = (n : ℕ) → GoesOn m a n

-- Neither of two modules ends where the other goes on. Where m goes on at a bound, l does at a lower one, and the other way round.
pub record LastsAlike (m l : Module) (W : ℕ) : Type 0 where
  pub source_goes_on : (a : List Answer) (n : ℕ) → GoesOn m a ((n + 1) * W) → GoesOn l a n
  pub lowered_goes_on : (a : List Answer) (n : ℕ) → GoesOn l a (4 * n + 16) → GoesOn m a n
  pub for_ever : (a : List Answer) → LastsForEver m a ↔ LastsForEver l a

-- with these answers the run ends so at some bound
pub record EndsSo (m : Module) (a : List Answer) (es : List Event) (rs : List Record) (e : RunEnd) : Type 0 where
  pub steps : ℕ
  pub run : Runs m a steps es rs e
  pub over : e ≢ Cut

-- with these answers the run has issued these events and written these records at some bound, whether it is over there or goes on
pub record HasDone (m : Module) (a : List Answer) (es : List Event) (rs : List Record) : Type 0 where
  pub steps : ℕ
  pub events : List Event
  pub records : List Record
  pub end : RunEnd
  pub run : Runs m a steps events records end
  pub issued : Prefix es events
  pub written : Prefix rs records

-- in time, each of two modules does what the other does, and ends as it does
pub record DoesInTime (m l : Module) (N : Naming) : Type 0 where
  pub done_forth : (a : List Answer) (es : List Event) (rs : List Record) → HasDone m a es rs → HasDone l a (named_events N es) rs
  pub done_back : (a : List Answer) (es' : List Event) (rs : List Record) → HasDone l a es' rs
      → (es : List Event) × (named_events N es ≡ es') × HasDone m a es rs
  pub ends_forth : (a : List Answer) (es : List Event) (rs : List Record) (e : RunEnd) → EndsSo m a es rs e
      → EndsSo l a (named_events N es) rs (named_end N e)
  pub ends_back : (a : List Answer) (es' : List Event) (rs : List Record) (e' : RunEnd) → EndsSo l a es' rs e'
      → (es : List Event) × (e : RunEnd) × (named_events N es ≡ es') × (named_end N e ≡ e') × EndsSo m a es rs e
