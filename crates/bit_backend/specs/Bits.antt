-- The bits of qubits after events, and which events fit them.
use Rattle.std.specs.Prelude.{◌≡◌, ◌&&◌, Bool, true, false, Option, Some, None, List, [], ◌∷◌, ◌++◌, fold, IfSome}
use Rattle.std.specs.Option.{option_map, option_map_or}
use Rattle.std.proofs.Common.{subst}
use Rattle.backend_api.specs.declared.operation.Answer.{Answer}
use Rattle.backend_api.specs.declared.operation.Answer.TheVariants as answer
use Rattle.backend_api.specs.declared.operation.Event.{Event}
use Rattle.backend_api.specs.declared.operation.Op.{Op}
use Rattle.backend_api.specs.declared.operation.QubitRef.{QubitRef}
use Rattle.backend_api.specs.Backend.{BackendState}
use Rattle.bit_backend.specs.Actions.{QubitBits, action_of, after_action, answer_to, can}

abbrev pub after_event : QubitBits → Event → QubitBits
after_event bits e = option_map_or (λ a. after_action a bits) (action_of e.op) bits

-- the bit of a qubit after events, the oldest first: 0 before them
abbrev pub bit_after : List Event → QubitRef → Bool
bit_after es = fold after_event (λ _. false) es

-- the answer to an operation after events, where it can be done
abbrev pub answer_after : List Event → Op → Option Answer
answer_after es op = option_map (λ a. answer_to a (bit_after es)) (action_of op)

abbrev pub same_answer : Answer → Answer → Bool
same_answer answer.Done answer.Done = true
same_answer (answer.Bit true) (answer.Bit true) = true
same_answer (answer.Bit false) (answer.Bit false) = true
same_answer a b = false

abbrev pub is_answered : List Event → Event → Bool
is_answered before e = option_map_or (same_answer e.answer) (answer_after before e.op) false

abbrev pub fits_behind : List Event → List Event → Bool
fits_behind before [] = true
fits_behind before (e ∷ es) = is_answered before e && fits_behind (before ++ e ∷ []) es

-- each operation can be done, and each answer is the one after the events before it
abbrev pub fits : List Event → Bool
fits es = fits_behind [] es

-- events that fit
pub record History : Type 0 where
  pub events : List Event
  pub fitting : fits events ≡ true

-- what contracts see of a backend with such events
abbrev pub state_of : History → BackendState
state_of h = record {
  events = Some h.events;
  fits = fits;
  faults = 0;
  can = can;
  outcomes = None;
  spare = 0;
}

-- those that it tells fit
pub told_events_fit : (h : History) (es : List Event) → (state_of h).events ≡ Some es → fits es ≡ true
told_events_fit h es e = subst (λ told. IfSome told (λ es. fits es ≡ true)) e h.fitting
