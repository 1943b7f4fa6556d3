-- Lists that the code reads one by one.
use Rattle.std.specs.Prelude.{Option, None, Some, List, [], ◌∷◌, ◌++◌, slice_set}
use Rattle.ir_module.specs.declared.tree.Phi.{Phi}
use Rattle.ir_values.specs.declared.ids.BlockId.{BlockId}
use Rattle.ir_values.specs.declared.value.Value.{Value}
use Rattle.qir_meaning.specs.Moves.{given, entry_for}
use Rattle.qir_meaning.specs.State.{Env, value_of}

-- these and then the others, where there are any
abbrev pub behind : {A : Type 0} → List A → Option (List A) → Option (List A)
behind xs None = None
behind xs (Some ys) = Some (xs ++ ys)

-- what the phis of a block take along an edge
abbrev pub taken : List Phi → BlockId → Env → Option (List (Option Value))
taken [] from env = Some []
taken (phi ∷ phis) from env = given (entry_for phi.entries from) (λ a. behind (value_of env a ∷ []) (taken phis from env))

-- their results have these values
abbrev pub put_all : List Phi → List (Option Value) → Env → Env
put_all [] vs env = env
put_all (phi ∷ phis) [] env = env
put_all (phi ∷ phis) (v ∷ vs) env = put_all phis vs (slice_set env phi.result.0 v)
