-- What a written bit changes in the table.
use Rattle.std.proofs.Common.{◌≡◌, Bool, true, false, Option, Some, cond, unwrap_or, refl, ap, sym, ◌∙◌, rules}
use Rattle.backend_api.specs.declared.operation.QubitRef.{QubitRef}
use Rattle.backend_api.specs.declared.operation.QubitRef.TheVariants as qubit
use Rattle.backend_api.specs.contracts.operation.QubitRefPartialEq.TheImpl as block
use Rattle.backend_api.specs.Operations.{same_qubit}
use Rattle.indexmap.specs.IndexMap.{Updates, get, get_by}
use Rattle.bit_backend.specs.Actions.{with_bit}
use Rattle.bit_backend.specs.code.Table.{BitTable, bit_in}

-- `==` of the table's keys
same : (q p : QubitRef) → block.ghosts.eq q p ≡ same_qubit q p
same (qubit.Id i) (qubit.Id j) = search rules
same (qubit.Id i) (qubit.Alloc j) = refl
same (qubit.Alloc i) (qubit.Id j) = refl
same (qubit.Alloc i) (qubit.Alloc j) = search rules

chosen : (there : Bool) (b : Bool) (o : Option Bool) → unwrap_or (cond there (Some b) o) false ≡ cond there b (unwrap_or o false)
chosen true b o = refl
chosen false b o = refl

bit_by : (m : BitTable) (p : QubitRef) → unwrap_or (get block.ghosts.eq m p) false ≡ bit_in m p
bit_by m p = λ i. unwrap_or (get_by (λ q. same p q i) m) false

pub bit_in-insert : (old new : BitTable) (q : QubitRef) (b : Bool) → Updates block.ghosts.eq old new q (Some b) → (p : QubitRef) → bit_in new p ≡ with_bit q b (bit_in old) p
bit_in-insert old new q b u p =
    sym (bit_by new p) ∙ ap (λ o. unwrap_or o false) (u.0 p) ∙ chosen (block.ghosts.eq q p) b (get block.ghosts.eq old p) ∙ (λ i. cond (same q p i) b (bit_by old p i))
