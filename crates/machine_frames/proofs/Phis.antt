-- Phis that take their values together, one list after the other.
use Rattle.std.proofs.Common.{◌≡◌, ◌∙◌, List, [], ◌∷◌, Option, None, Some, refl}
use Rattle.std.specs.Prelude.{slice_set}
use Rattle.std.specs.Option.{option_map}
use Rattle.ir_module.specs.declared.tree.Operand.{Operand}
use Rattle.ir_module.specs.declared.tree.Phi.{Phi}
use Rattle.ir_values.specs.declared.ids.BlockId.{BlockId}
use Rattle.ir_values.specs.declared.value.Value.{Value}
use Rattle.machine_frames.specs.code.Lists.{behind, put_all, taken}
use Rattle.qir_meaning.specs.Moves.{given, entry_for, phis_take}
use Rattle.qir_meaning.specs.State.{Env, value_of}

put-first : (phi : Phi) (phis : List Phi) (new : Env) (v : Option Value) (o : Option (List (Option Value))) → option_map (λ vs. put_all phis vs (slice_set new phi.result.0 v)) o ≡ option_map (λ vs. put_all (phi ∷ phis) vs new) (behind (v ∷ []) o)
put-first phi phis new v None = refl
put-first phi phis new v (Some vs) = refl

module _ (phi : Phi) (phis : List Phi) (from : BlockId) (old new : Env) (later : (new : Env) → phis_take phis from old new ≡ option_map (λ vs. put_all phis vs new) (taken phis from old)) where
  by-entry : (o : Option Operand) → given o (λ a. phis_take phis from old (slice_set new phi.result.0 (value_of old a))) ≡ option_map (λ vs. put_all (phi ∷ phis) vs new) (given o (λ a. behind (value_of old a ∷ []) (taken phis from old)))
  by-entry None = refl
  by-entry (Some a) = later (slice_set new phi.result.0 (value_of old a)) ∙ put-first phi phis new (value_of old a) (taken phis from old)

-- the values are taken first, and put then
pub phis-taken : (phis : List Phi) (from : BlockId) (old new : Env) → phis_take phis from old new ≡ option_map (λ vs. put_all phis vs new) (taken phis from old)
phis-taken [] from old new = refl
phis-taken (phi ∷ phis) from old new = by-entry phi phis from old new (λ n. phis-taken phis from old n) (entry_for phi.entries from)

pub put-none : (phis : List Phi) (env : Env) → put_all phis [] env ≡ env
put-none [] env = refl
put-none (phi ∷ phis) env = refl
