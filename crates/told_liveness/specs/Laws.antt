-- The names that are live in a module can be told, and in one way.
use Rattle.std.specs.Prelude.{◌≡◌, Bool}
use Rattle.ir_module.specs.declared.places.Point.{Point}
use Rattle.ir_module.specs.declared.tree.Module.{Module}
use Rattle.ir_values.specs.declared.ids.LocalId.{LocalId}
use Rattle.told_liveness.specs.Tests.{IsLiveTest}

-- every module has a test of its live names
abbrev pub HasTest : Type 0
HasTest = (m : Module) → (live : Point → LocalId → Bool) × IsLiveTest m live

-- and just one
abbrev pub IsToldOnce : Type 0
IsToldOnce = (m : Module) (a b : Point → LocalId → Bool) → IsLiveTest m a → IsLiveTest m b → a ≡ b
