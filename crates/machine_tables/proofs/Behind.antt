-- The results among arguments.
use Rattle.std.proofs.Common.{◌≡◌, ◌∙◌, ℕ, ◌+◌, List, [], ◌∷◌, ◌++◌, cond, refl, ap, arith}
use Rattle.std.proofs.lemmas.List.Sums.{sum_by-cons}
use Rattle.std.specs.Prelude.{Option, None, Some, count_by}
use Rattle.backend_api.specs.declared.operation.Arg.{Arg}
use Rattle.backend_api.specs.declared.operation.Arg.TheVariants as arg
use Rattle.backend_api.specs.declared.operation.ResultRef.{ResultRef}
use Rattle.backend_api.specs.Operations.{is_result}
use Rattle.qir_meaning.specs.Effects.{first_result}

-- behind arguments that are no results comes the first
pub first-behind : (args : List Arg) (r : ResultRef) → count_by is_result args ≡ 0 → first_result (args ++ arg.Res r ∷ []) ≡ Some r
first-behind [] r e = refl
first-behind (arg.Res q ∷ args) r e =
    let one : count_by is_result (arg.Res q ∷ args) ≡ 1 + count_by is_result args = sum_by-cons (λ (a : Arg). cond (is_result a) 1 0) (arg.Res q) args in absurd (omega arith)
first-behind (arg.Qubit q ∷ args) r e = first-behind args r e
first-behind (arg.Double t ∷ args) r e = first-behind args r e
first-behind (arg.Int i ∷ args) r e = first-behind args r e
