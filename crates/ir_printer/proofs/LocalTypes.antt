-- The type of a local, by the item at its number.
use Rattle.std.proofs.Common.{◌≡◌, ℕ, zero, suc, ◌<◌, ◌≤◌, List, [], ◌∷◌, length, get_or, refl, sym, ap, arith}
use Rattle.std.specs.Prelude.{slice_get}
use Rattle.ir_values.specs.declared.name.Name.{Name}
use Rattle.ir_values.specs.declared.ty.Ty.{Ty}
use Rattle.ir_values.specs.declared.ty.Ty.TheVariants as ty
use Rattle.ir_printer.specs.Instructions.{type_of_local}

pub type_there : (ls : List (Name × Ty)) (i : ℕ) (l : Name × Ty) → i < length ls → l ≡ get_or ls i l → type_of_local (slice_get ls i) ≡ l.1
type_there [] i l h e = absurd (omega arith)
type_there (m ∷ ls) zero l h e = ap (λ x. x.1) (sym e)
type_there (m ∷ ls) (suc i) l h e = type_there ls i l (omega arith) e

pub type_nowhere : (ls : List (Name × Ty)) (i : ℕ) → length ls ≤ i → type_of_local (slice_get ls i) ≡ ty.Void
type_nowhere [] i h = refl
type_nowhere (m ∷ ls) zero h = absurd (omega arith)
type_nowhere (m ∷ ls) (suc i) h = type_nowhere ls i (omega arith)
