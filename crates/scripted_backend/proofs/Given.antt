-- An answer takes the bits that it tells from those left, and changes nothing of all that were given.
use Rattle.std.proofs.Common.{◌≡◌, Bool, List, [], ◌∷◌, ◌++◌, refl, sym, ap, ◌∙◌, append_assoc, append-nil}
use Rattle.std.specs.Bool.{beq}
use Rattle.std.specs.List.{starts_with}
use Rattle.std.proofs.Math.Nat.{le_refl}
use Rattle.std.proofs.lemmas.Grind.{flat_map-append}
use Rattle.backend_api.specs.declared.operation.Event.{Event}
use Rattle.backend_api.specs.Backend.{Keeps}
use Rattle.backend_api.specs.Operations.{bits_in, bits_of_answer}
use Rattle.scripted_backend.specs.Script.{ScriptState, given, seen}

pub given-answered : (es es' : List Event) (left left' : List Bool) (e : Event) → es' ≡ es ++ e ∷ [] → left ≡ bits_of_answer e.answer ++ left'
    → bits_in es' ++ left' ≡ bits_in es ++ left
given-answered es es' left left' e more taken =
    ap (λ events. bits_in events ++ left') more
    ∙ ap (λ bits. bits ++ left') (flat_map-append _ es (e ∷ []) ∙ ap (λ bits. bits_in es ++ bits) (append-nil (bits_of_answer e.answer)))
    ∙ append_assoc (bits_in es) (bits_of_answer e.answer) left'
    ∙ ap (λ bits. bits_in es ++ bits) (sym taken)

pub keeps : (old new : ScriptState) → given new ≡ given old → Keeps (seen old) (seen new)
keeps old new same = record { can = refl; fits = ap (λ bits. λ es. starts_with beq bits (bits_in es)) same; faults = le_refl 0 }
