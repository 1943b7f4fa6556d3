-- Shots of two modules that do the same: with the same bits from the machine they write the same records and end alike.
use Rattle.std.specs.Prelude.{◌≡◌, ◌≢◌, ℕ, ◌+◌, ◌*◌}
use Rattle.backend_api.specs.Naming.{Naming, named_events}
use Rattle.ir_module.specs.declared.tree.Module.{Module}
use Rattle.output_lines.specs.declared.last.Last.TheVariants.{Stop}
use Rattle.output_lines.specs.declared.last.StopName.TheVariants as stop
use Rattle.shots.specs.declared.backend.Backend.{Backend}
use Rattle.shots.specs.Shots.{IsShot, Shot}

-- the bound of steps ended it
abbrev pub IsCut : Shot → Type 0
IsCut x = x.last ≡ Stop stop.Cut

abbrev pub IsOver : Shot → Type 0
IsOver x = x.last ≢ Stop stop.Cut

-- y writes the records that x writes and ends as it does; its events are those of x under other names for qubits and results
pub record DoesSame (N : Naming) (x y : Shot) : Type 0 where
  pub events : y.events ≡ named_events N x.events
  pub records : y.records ≡ x.records
  pub last : y.last ≡ x.last

-- For each backend and each bound of steps, shots of m and of l that the same backend answers do the same.
pub record EqualShots (m l : Module) (N : Naming) (W : ℕ) : Type 0 where
  -- whatever the two bounds, where neither is cut
  pub equal : (b : Backend) (n k : ℕ) (x y : Shot) → IsShot b m n x → IsShot b l k y → IsOver x → IsOver y → DoesSame N x y
  -- where one is over, so is the other, at a bound that is known
  pub forth : (b : Backend) (n : ℕ) (x : Shot) → IsShot b m n x → IsOver x
      → (y : Shot) × IsShot b l (4 * n + 16) y × DoesSame N x y
  pub back : (b : Backend) (n : ℕ) (y : Shot) → IsShot b l n y → IsOver y
      → (x : Shot) × IsShot b m ((n + 1) * W) x × DoesSame N x y
  -- where one is cut, so is the other, at a lower bound
  pub cut_forth : (b : Backend) (n : ℕ) (x y : Shot) → IsShot b m ((n + 1) * W) x → IsShot b l n y → IsCut x → IsCut y
  pub cut_back : (b : Backend) (n : ℕ) (x y : Shot) → IsShot b l (4 * n + 16) y → IsShot b m n x → IsCut y → IsCut x
