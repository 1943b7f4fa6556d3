-- There is one shot for each backend and each bound.
use Rattle.std.specs.Prelude.{◌≡◌, ℕ}
use Rattle.ir_module.specs.declared.tree.Module.{Module}
use Rattle.ir_module.specs.Numbered.{Numbered}
use Rattle.type_check.specs.Faults.{Typed}
use Rattle.shots.specs.declared.backend.Backend.{Backend}
use Rattle.shots.specs.Shots.{IsShot, Shot}

-- a module without faults has a shot
unfoldable pub ShotsExist : Type 0
ShotsExist =
    (m : Module) (limit : ℕ) → Numbered m → Typed m limit → (b : Backend) (n : ℕ) → (shot : Shot) × IsShot b m n shot

-- it has at most one
unfoldable pub ShotsAreOne : Type 0
ShotsAreOne =
    (m : Module) (limit : ℕ) → Numbered m → Typed m limit → (b : Backend) (n : ℕ) (x y : Shot)
    → IsShot b m n x → IsShot b m n y → x ≡ y
