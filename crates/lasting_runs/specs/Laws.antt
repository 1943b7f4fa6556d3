-- Laws of two modules of which one does what the other does.
use Rattle.std.specs.Prelude.{ℕ}
use Rattle.backend_api.specs.Naming.{Naming}
use Rattle.ir_module.specs.declared.tree.Module.{Module}
use Rattle.qir_meaning.specs.Runs.{AlwaysRuns}
use Rattle.qir_meaning.specs.Same.{SameBehaviour}
use Rattle.lasting_runs.specs.Lasting.{DoesInTime, LastsAlike}

-- neither ends where the other goes on
abbrev pub LastAlike : Type 0
LastAlike = (m l : Module) (N : Naming) (W : ℕ) → AlwaysRuns m → AlwaysRuns l → SameBehaviour m l N W → LastsAlike m l W

-- bounds aside: what one does in time, also where it goes on for ever, the other does in time, and it ends as the other does
abbrev pub SameInTime : Type 0
SameInTime = (m l : Module) (N : Naming) (W : ℕ) → AlwaysRuns m → AlwaysRuns l → SameBehaviour m l N W → DoesInTime m l N
