-- What contracts see of a backend, and what its calls do to it.
use Rattle.std.specs.Prelude.{◌≡◌, ◌↔◌, ℕ, ◌+◌, ◌≤◌, Bool, true, false, Option, Some, List, [], ◌∷◌, ◌++◌}
use Rattle.std.specs.Option.{option_map}
use Rattle.ir_values.specs.Counts.{Rose}
use Rattle.backend_api.specs.declared.backend.Stop.TheVariants as stop
use Rattle.backend_api.specs.declared.backend.Turned.{Turned}
use Rattle.backend_api.specs.declared.operation.Answer.{Answer}
use Rattle.backend_api.specs.declared.operation.Answer.TheVariants as answer
use Rattle.backend_api.specs.declared.operation.Event.{Event}
use Rattle.backend_api.specs.declared.operation.Op.{Op}
use Rattle.backend_api.specs.Operations.{IsMeasurement}

pub record BackendState : Type 0 where
  pub events : Option (List Event)  -- the operations that it answered, the oldest first, where it tells them
  pub fits : List Event → Bool  -- a test of such lists, which the one that is told meets
  pub faults : ℕ  -- how many faults it had, up to the last value of a u64
  pub can : Op → Bool  -- the operations that it can do
  pub outcomes : Option ℕ  -- how many outcomes of measurements it has left, where it tells that
  pub spare : ℕ  -- so many answers more need no memory

-- the events that are told, and one more
abbrev pub with_answer : Op → Answer → Option (List Event) → Option (List Event)
with_answer op a before = option_map (λ es. es ++ (record { op = op; answer = a }) ∷ []) before

-- how many outcomes were left before an answer: a bit was one of them
abbrev pub outcomes_before : Answer → Option ℕ → Option ℕ
outcomes_before answer.Done left = left
outcomes_before (answer.Bit b) left = option_map (λ n. n + 1) left

-- the operation was answered
pub record Answered (op : Op) (a : Answer) (old new : BackendState) : Type 0 where
  pub able : old.can op ≡ true
  pub events : new.events ≡ with_answer op a old.events
  pub outcomes : old.outcomes ≡ outcomes_before a new.outcomes
  pub spare : old.spare ≤ new.spare + 1

-- the operation was refused, for just this cause, and is handed back
pub record Refused (op : Op) (turned : Turned) (old new : BackendState) : Type 0 where
  pub back : turned.op ≡ op
  pub unsupported : (turned.why ≡ stop.Unsupported) ↔ (old.can op ≡ false)
  pub empty : (turned.why ≡ stop.Empty) ↔ ((old.can op ≡ true) × IsMeasurement op × (old.outcomes ≡ Some 0))
  pub failed : turned.why ≡ stop.Failed → Rose old.faults new.faults
  pub memory : turned.why ≡ stop.Memory → old.spare ≡ 0
  pub events : new.events ≡ old.events
  pub outcomes : new.outcomes ≡ old.outcomes
  pub spare : old.spare ≤ new.spare

-- whatever a call answers
pub record Keeps (old new : BackendState) : Type 0 where
  pub can : new.can ≡ old.can
  pub fits : new.fits ≡ old.fits
  pub faults : old.faults ≤ new.faults
