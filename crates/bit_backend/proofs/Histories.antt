-- One event more.
use Rattle.std.proofs.Common.{◌≡◌, Bool, true, false, ◌&&◌, List, [], ◌∷◌, ◌++◌, Some, refl, sym, append_assoc, append-nil}
use Rattle.std.proofs.lemmas.List.Sums.{fold-append}
use Rattle.backend_api.specs.declared.operation.Answer.{Answer}
use Rattle.backend_api.specs.declared.operation.Answer.TheVariants as answer
use Rattle.backend_api.specs.declared.operation.Event.{Event}
use Rattle.backend_api.specs.declared.operation.Op.{Op}
use Rattle.backend_api.specs.declared.operation.QubitRef.{QubitRef}
use Rattle.bit_backend.specs.declared.action.Action.{Action}
use Rattle.bit_backend.specs.Actions.{QubitBits, action_of, after_action, answer_to}
use Rattle.bit_backend.specs.Bits.{after_event, answer_after, bit_after, fits, fits_behind, is_answered, same_answer}

pub bit_after-push : (es : List Event) (e : Event) → bit_after (es ++ e ∷ []) ≡ after_event (bit_after es) e
bit_after-push es e = fold-append after_event (λ _. false) es (e ∷ [])

and_true : (b : Bool) → (b && true) ≡ b
and_true true = refl
and_true false = refl

and_assoc : (a b c : Bool) → (a && (b && c)) ≡ (a && b && c)
and_assoc true b c = refl
and_assoc false b c = refl

fits_behind-push : (before es : List Event) (e : Event) → fits_behind before (es ++ e ∷ []) ≡ (fits_behind before es && is_answered (before ++ es) e)
fits_behind-push before [] e = rw append-nil (and_true (is_answered before e))
fits_behind-push before (x ∷ es) e =
    let more = fits_behind-push (before ++ x ∷ []) es e in
    rw (more, append_assoc) (and_assoc (is_answered before x) (fits_behind (before ++ x ∷ []) es) (is_answered (before ++ x ∷ es) e))

pub fits-push : (es : List Event) (e : Event) → fits (es ++ e ∷ []) ≡ (fits es && is_answered es e)
fits-push es e = fits_behind-push [] es e

same_answer-refl : (a : Answer) → same_answer a a ≡ true
same_answer-refl answer.Done = refl
same_answer-refl (answer.Bit true) = refl
same_answer-refl (answer.Bit false) = refl

-- an operation is answered by bits that are those after the events before it
module _ (es : List Event) (bits : QubitBits) (agree : (p : QubitRef) → bits p ≡ bit_after es p) (op : Op) (act : Action) (does : action_of op ≡ Some act) where
  abbrev event : Event
  event = record { op = op; answer = answer_to act bits }

  known : bit_after es ≡ bits
  known = λ i p. sym (agree p) i

  pub answer-known : answer_after es op ≡ Some (answer_to act bits)
  answer-known = rw (does, known)

  pub fits-answered : fits es ≡ true → fits (es ++ event ∷ []) ≡ true
  fits-answered fit = rw (fits-push es event, fit, answer-known) (same_answer-refl (answer_to act bits))

  pub bits-answered : (p : QubitRef) → after_action act bits p ≡ bit_after (es ++ event ∷ []) p
  bits-answered p = rw (bit_after-push es event, known, does)
