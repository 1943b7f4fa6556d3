-- What a written bit changes in the table.
use Rattle.std.proofs.Common.{◌≡◌, ◌∙◌, Bool, true, false, Option, Some, cond, refl, ap, sym, rules}
use Rattle.backend_api.specs.declared.operation.ResultRef.{ResultRef}
use Rattle.backend_api.specs.declared.operation.ResultRef.TheVariants as result
use Rattle.backend_api.specs.contracts.operation.ResultRefPartialEq.TheImpl as block
use Rattle.backend_api.specs.Operations.{same_result}
use Rattle.indexmap.specs.IndexMap.{Updates, get, get_by}
use Rattle.machine_tables.specs.code.Reads.{Table, bit_at, Sets}

-- `==` of the table's keys
same : (q p : ResultRef) → block.ghosts.eq q p ≡ same_result q p
same (result.Id i) (result.Id j) = search rules
same (result.Id i) (result.Measured j) = refl
same (result.Measured i) (result.Id j) = refl
same (result.Measured i) (result.Measured j) = search rules

pub bit-by : (m : Table) (p : ResultRef) → get block.ghosts.eq m p ≡ bit_at m p
bit-by m p = λ i. get_by (λ q. same p q i) m

pub bit-insert : (old new : Table) (r : ResultRef) (b : Bool) → Updates block.ghosts.eq old new r (Some b) → Sets r b old new
bit-insert old new r b u q =
    sym (bit-by new q) ∙ u.0 q ∙ (λ i. cond (same r q i) (Some b) (bit-by old q i))
