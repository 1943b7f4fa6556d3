-- The equality of phases as a test.
use Rattle.std.specs.Prelude.{◌≡◌, ℕ, Bool, ◌==◌, refl}
use Rattle.std.specs.Bool.{Decides}
use Rattle.std.specs.Cmp.{IsEquivalence, IsPartialEquivalence, decided, unsigned_Decides, partial_equiv_from_equiv}
use Rattle.std.proofs.Common.{ap}
use Rattle.static_steps.specs.declared.phase.Phase.{Phase}
use Rattle.static_steps.specs.declared.phase.Phase.TheVariants.{Begin, Reversible, Irreversible, Output}

-- the number of a phase in their order
abbrev pub rank : Phase → ℕ
rank Begin = 0
rank Reversible = 1
rank Irreversible = 2
rank Output = 3

unfoldable pub same_phase : Phase → Phase → Bool
same_phase a b = rank a == rank b

from_rank : (a b : Phase) → rank a ≡ rank b → a ≡ b
from_rank Begin Begin e = refl
from_rank Reversible Reversible e = refl
from_rank Irreversible Irreversible e = refl
from_rank Output Output e = refl
from_rank a b e = cc

pub same_phase-decides : (a b : Phase) → Decides (same_phase a b) (a ≡ b)
unfolding same_phase
same_phase-decides a b = (λ e. from_rank a b ((unsigned_Decides (rank a) (rank b)).0 e), λ e. (unsigned_Decides (rank a) (rank b)).1 (ap rank e))

pub same_phase-equiv : IsEquivalence same_phase
same_phase-equiv = decided same_phase same_phase-decides

pub same_phase-per : IsPartialEquivalence same_phase
same_phase-per = partial_equiv_from_equiv same_phase-equiv
