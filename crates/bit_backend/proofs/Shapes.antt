-- The lists of arguments that a known operation has.
use Rattle.std.proofs.Common.{◌≡◌, List, [], ◌∷◌, ℕ, Option, None, map, refl}
use Rattle.backend_api.specs.declared.operation.Arg.{Arg}
use Rattle.backend_api.specs.declared.operation.Arg.TheVariants as arg
use Rattle.backend_api.specs.declared.operation.QubitRef.{QubitRef}
use Rattle.backend_api.specs.declared.operation.ResultRef.{ResultRef}
use Rattle.backend_api.specs.Naming.{Naming, named_arg}
use Rattle.bit_backend.specs.declared.action.Action.{Action}
use Rattle.bit_backend.specs.Actions.{measuring, on_args, on_one, on_three, on_two}

-- no operation has these arguments, nor renamed ones
abbrev pub Unknown : List Arg → Type 0
Unknown args = (N : Naming) (name : List ℕ) → on_args name (map (named_arg N) args) ≡ None

-- what holds of the four known forms, and of all others, holds of all
pub by_shape : (name : List ℕ) (P : List Arg → Option Action → Type 0)
    → ((q : QubitRef) → P (arg.Qubit q ∷ []) (on_one name q))
    → ((q : QubitRef) (r : ResultRef) → P (arg.Qubit q ∷ arg.Res r ∷ []) (measuring name q))
    → ((a b : QubitRef) → P (arg.Qubit a ∷ arg.Qubit b ∷ []) (on_two name a b))
    → ((a b c : QubitRef) → P (arg.Qubit a ∷ arg.Qubit b ∷ arg.Qubit c ∷ []) (on_three name a b c))
    → ((args : List Arg) → Unknown args → P args None) → (args : List Arg) → P args (on_args name args)
by_shape name P one measure two three other [] = other [] (λ _ _. refl)
by_shape name P one measure two three other (arg.Res r ∷ args) = other _ (λ _ _. refl)
by_shape name P one measure two three other (arg.Double t ∷ args) = other _ (λ _ _. refl)
by_shape name P one measure two three other (arg.Int i ∷ args) = other _ (λ _ _. refl)
by_shape name P one measure two three other (arg.Qubit q ∷ []) = one q
by_shape name P one measure two three other (arg.Qubit q ∷ arg.Res r ∷ []) = measure q r
by_shape name P one measure two three other (arg.Qubit q ∷ arg.Res r ∷ b ∷ args) = other _ (λ _ _. refl)
by_shape name P one measure two three other (arg.Qubit q ∷ arg.Double t ∷ args) = other _ (λ _ _. refl)
by_shape name P one measure two three other (arg.Qubit q ∷ arg.Int i ∷ args) = other _ (λ _ _. refl)
by_shape name P one measure two three other (arg.Qubit a ∷ arg.Qubit b ∷ []) = two a b
by_shape name P one measure two three other (arg.Qubit a ∷ arg.Qubit b ∷ arg.Qubit c ∷ []) = three a b c
by_shape name P one measure two three other (arg.Qubit a ∷ arg.Qubit b ∷ arg.Qubit c ∷ d ∷ args) = other _ (λ _ _. refl)
by_shape name P one measure two three other (arg.Qubit a ∷ arg.Qubit b ∷ arg.Res r ∷ args) = other _ (λ _ _. refl)
by_shape name P one measure two three other (arg.Qubit a ∷ arg.Qubit b ∷ arg.Double t ∷ args) = other _ (λ _ _. refl)
by_shape name P one measure two three other (arg.Qubit a ∷ arg.Qubit b ∷ arg.Int i ∷ args) = other _ (λ _ _. refl)
