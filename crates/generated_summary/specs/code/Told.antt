-- What the code has of a run, and the names that it goes by.
use Rattle.std.specs.Prelude.{◌≡◌, ℕ}
use Rattle.backend_api.specs.Naming.{Naming}
use Rattle.generated_summary.specs.BitRuns.{AreSame, BitRun}
use Rattle.generated_summary.specs.declared.names.Names.{Names}
use Rattle.generated_summary.specs.declared.run.Played.{Played}
use Rattle.ir_module.specs.declared.tree.Module.{Module}
use Rattle.machine_frames.specs.Frames.{meant}
use Rattle.qir_meaning.specs.Naming.{fixed_naming}

-- it is the run of the module over classical bits
pub record IsPlayed (m : Module) (n : ℕ) (p : Played) : Type 0 where
  pub run : BitRun m n
  pub events : run.shot.events ≡ p.bits.events
  pub records : run.shot.records ≡ p.ended.records
  pub end : run.is_shot.end ≡ meant p.ended.end
  pub steps : run.steps ≡ p.ended.used

abbrev pub naming : Names → Naming
naming names = fixed_naming names.qubits names.results

abbrev pub PlaySame : Names → Played → Played → Type 0
PlaySame names x y =
    AreSame (naming names) x.bits.events y.bits.events x.ended.records y.ended.records (meant x.ended.end) (meant y.ended.end)
