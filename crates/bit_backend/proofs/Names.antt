-- Which names an instruction can have.
use Rattle.std.proofs.Common.{◌≡◌, ◌≢◌, ℕ, Bool, true, false, ◌||◌, if◌then◌else◌, List, ◌++◌, Option, None, Some, MatchOption, Bor, codes, refl, ap, sym, ◌∙◌}
use Rattle.std.proofs.lemmas.List.{append_cancel_left}
use Rattle.std.proofs.lemmas.Slice.Eq.{bytes_eq-Decides}
use Rattle.backend_api.specs.declared.operation.Arg.{Arg}
use Rattle.backend_api.specs.Operations.{same_qubit}
use Rattle.bit_backend.specs.declared.action.Action.{Action}
use Rattle.bit_backend.specs.Actions.{is_named, named, on_args}
use Rattle.bit_backend.proofs.Shapes.{by_shape}

abbrev pub Unnamed : List ℕ → Type 0
Unnamed name = (stem : List ℕ) → is_named name stem ≡ false

unless : (b : Bool) → (b ≡ true → ⊥) → b ≡ false
unless true h = absurd (h refl)
unless false h = refl

-- what stands behind `__quantum__qis__` decides
pub stem_by : (name rest : List ℕ) (r : Option (Bor (List ℕ))) → name ≡ codes "__quantum__qis__" ++ rest
    → MatchOption r ((front : List ℕ) → rest ≢ front ++ codes "__body") (λ x. rest ≡ x.now ++ codes "__body") → MatchOption r (Unnamed name) (λ x. name ≡ named x.now)
stem_by name rest None e h =
    λ stem. unless (is_named name stem) (λ t. h stem (append_cancel_left (codes "__quantum__qis__") rest (stem ++ codes "__body") (sym e ∙ (bytes_eq-Decides name (named stem)).0 t)))
stem_by name rest (Some x) e h = e ∙ ap (λ r. codes "__quantum__qis__" ++ r) h

either : (t : Bool) (o : Option Action) → (if t then o else o) ≡ o
either true o = refl
either false o = refl

pub unnamed_does_nothing : (name : List ℕ) → Unnamed name → (args : List Arg) → on_args name args ≡ None
unnamed_does_nothing name un =
    by_shape name (λ _ o. o ≡ None) (λ q. rw (un (codes "x"), un (codes "reset"))) (λ q r. rw (un (codes "mz"), un (codes "m"), un (codes "mresetz")))
    (λ a b. rw (un (codes "swap"), un (codes "cnot"), un (codes "cx")) (either (same_qubit a b) None))
    (λ a b c. rw (un (codes "ccx")) (either (same_qubit a b || same_qubit a c || same_qubit b c) None))
    (λ args unknown. refl)
