-- Lowering has exactly one answer.
use Rattle.std.specs.Prelude.{◌≡◌, ◌⊎◌, ℕ}
use Rattle.ir_module.specs.declared.places.Point.{Point}
use Rattle.ir_module.specs.declared.places.Spot.TheVariants as spot
use Rattle.ir_module.specs.declared.tree.Module.{Module}
use Rattle.ir_module.specs.Numbered.{Numbered}
use Rattle.kept_items.specs.declared.target.Kind.{Kind}
use Rattle.kept_items.specs.declared.target.Target.{Target}
use Rattle.type_check.specs.Faults.{Typed}
use Rattle.type_check.specs.Told.{HasPlace}
use Rattle.sound_lowering.specs.Programs.{IsLowered, IsNotLowered, source_limit}

-- at most one: a module has one lowered module, or one instruction that decides against it, for one kind
pub record HasOneAnswer (m : Module) (t : Target) (budget : ℕ) : Type 0 where
  pub module_ : (l k : Module) → IsLowered m t budget l → IsLowered m t budget k → l ≡ k
  pub refusal : (at there : Point) (kind other : Kind)
      → IsNotLowered m t budget at kind
      → IsNotLowered m t budget there other
      → (at ≡ there) × (kind ≡ other)
  pub not_both : (l : Module) (at : Point) (kind : Kind) → IsLowered m t budget l → IsNotLowered m t budget at kind → ⊥

-- and at least one
abbrev pub HasAnswer : Module → Target → ℕ → Type 0
HasAnswer m t budget =
    ((l : Module) × IsLowered m t budget l) ⊎ ((at : Point) × (kind : Kind) × IsNotLowered m t budget at kind)

abbrev pub LoweringHasOneAnswer : Type 0
LoweringHasOneAnswer = (m : Module) (t : Target) (budget : ℕ) → HasOneAnswer m t budget

abbrev pub LoweringHasAnAnswer : Type 0
LoweringHasAnAnswer = (m : Module) (t : Target) (budget : ℕ) → Numbered m → Typed m source_limit → HasAnswer m t budget

-- an instruction that decides against an admitted module has a place in its text
abbrev pub RefusalsHavePlaces : Type 0
RefusalsHavePlaces =
    (m : Module) (t : Target) (budget : ℕ) (at : Point) (kind : Kind)
    → Numbered m
    → Typed m source_limit
    → IsNotLowered m t budget at kind
    → HasPlace m (spot.At at)
