-- Shots of a module and of its lowered module are equal.
use Rattle.std.specs.Prelude.{ℕ, List}
use Rattle.backend_api.specs.Naming.{Naming}
use Rattle.equal_shots.specs.Shots.{EqualShots}
use Rattle.fused_parts.specs.Nodes.{Node}
use Rattle.ir_module.specs.declared.tree.Module.{Module}
use Rattle.ir_module.specs.Numbered.{Numbered}
use Rattle.kept_items.specs.declared.target.Target.{Target}
use Rattle.lasting_runs.specs.Lasting.{DoesInTime, LastsAlike}
use Rattle.qir_meaning.specs.Apart.{KeepsApart}
use Rattle.qir_meaning.specs.Same.{SameBehaviour}
use Rattle.sound_lowering.specs.Programs.{naming_of, source_limit}
use Rattle.sound_lowering.specs.Sound.{IsSound}
use Rattle.type_check.specs.Faults.{Typed}

-- two modules without faults, of which l does what m does under a naming that keeps m's qubits and results apart
pub record AreAlike (m l : Module) (N : Naming) (W limit limit' : ℕ) : Type 0 where
  pub numbered : Numbered m
  pub typed : Typed m limit
  pub lowered_numbered : Numbered l
  pub lowered_typed : Typed l limit'
  pub same : SameBehaviour m l N W
  pub apart : KeepsApart N m

unfoldable pub ShotsAreEqual : Type 0
ShotsAreEqual = (m l : Module) (N : Naming) (W limit limit' : ℕ) → AreAlike m l N W limit limit' → EqualShots m l N W

-- of an admitted module and its lowered module
unfoldable pub LoweredShotsAreEqual : Type 0
LoweredShotsAreEqual =
    (m : Module) (t : Target) (budget : ℕ) (nodes : List Node) (l : Module)
    → Numbered m
    → Typed m source_limit
    → IsSound m t budget nodes l
    → EqualShots m l (naming_of m) budget

-- and of all their runs, with any answers: neither ends where the other goes on, and in time each does what the other does
unfoldable pub LoweredRunsLastAlike : Type 0
LoweredRunsLastAlike =
    (m : Module) (t : Target) (budget : ℕ) (nodes : List Node) (l : Module)
    → IsSound m t budget nodes l
    → LastsAlike m l budget × DoesInTime m l (naming_of m)
