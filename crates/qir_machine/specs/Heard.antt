-- What a backend answered in a row of calls.
use Rattle.std.specs.Prelude.{◌≡◌, ℕ, ◌+◌, ◌≤◌, ⊤, true, false, Option, Some, List, ◌++◌, length, map}
use Rattle.std.specs.List.{All}
use Rattle.std.specs.Option.{option_map}
use Rattle.backend_api.specs.declared.operation.Answer.{Answer}
use Rattle.backend_api.specs.declared.operation.Event.{Event}
use Rattle.backend_api.specs.Backend.{BackendState}
use Rattle.backend_api.specs.Operations.{IsMeasurement, bits_in}
use Rattle.ir_values.specs.Counts.{Rose}
use Rattle.qir_meaning.specs.declared.end.Ask.TheVariants as ask
use Rattle.qir_meaning.specs.declared.end.End.{End}
use Rattle.qir_meaning.specs.declared.end.End.TheVariants as end

abbrev pub answers_of : List Event → List Answer
answers_of es = map (λ e. e.answer) es

-- these operations were answered, in order; one more may have been refused behind them
pub record Heard (old now : BackendState) (es : List Event) : Type 0 where
  pub told : now.events ≡ option_map (λ before. before ++ es) old.events
  pub able : All (λ (e : Event). old.can e.op ≡ true) es
  pub outcomes : old.outcomes ≡ option_map (λ left. left + length (bits_in es)) now.outcomes
  pub can : now.can ≡ old.can
  pub fits : now.fits ≡ old.fits
  pub faults : old.faults ≤ now.faults

-- where the run ended for want of an answer, the backend refused that operation for just this cause
abbrev pub Caused : End → BackendState → BackendState → Type 0
Caused (end.Returned code) old now = ⊤
Caused (end.Trapped why) old now = ⊤
Caused (end.Asks op ask.Unsupported) old now = old.can op ≡ false
Caused (end.Asks op ask.Empty) old now = (old.can op ≡ true) × IsMeasurement op × (now.outcomes ≡ Some 0)
Caused (end.Asks op ask.Failed) old now = Rose old.faults now.faults
Caused end.Cut old now = ⊤
