-- What the order of faults gives.
use Rattle.std.specs.Prelude.{◌≡◌, ◌⊎◌, ℕ}
use Rattle.ir_module.specs.declared.places.Spot.{Spot}
use Rattle.ir_module.specs.declared.tree.Module.{Module}
use Rattle.type_check.specs.declared.code.TypeCode.{TypeCode}
use Rattle.type_check.specs.Faults.{Typed, IsFirstFault}

-- a module has no fault, or a first one
abbrev pub TypedOrFaulty : Type 0
TypedOrFaulty = (m : Module) (limit : ℕ) → Typed m limit ⊎ ((s : Spot) × (c : TypeCode) × IsFirstFault m limit s c)

-- and it has no two
abbrev pub HasOneFirstFault : Type 0
HasOneFirstFault =
    (m : Module) (limit : ℕ) (s s' : Spot) (c c' : TypeCode)
    → IsFirstFault m limit s c
    → IsFirstFault m limit s' c'
    → (s ≡ s') × (c ≡ c')
