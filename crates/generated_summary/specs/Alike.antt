-- What it is that a lowered module does the same.
use Rattle.std.specs.Prelude.{◌≢◌, ℕ, ◌+◌, ◌*◌}
use Rattle.generated_summary.specs.BitRuns.{BitRun, DoTheSame}
use Rattle.generated_summary.specs.Summaries.{most_configurations, most_steps, plain_adaptive}
use Rattle.ir_module.specs.declared.tree.Module.{Module}
use Rattle.qir_meaning.specs.Runs.{Cut}
use Rattle.qubit_lowering.specs.Kept.{IsKept}
use Rattle.sound_lowering.specs.Programs.{naming_of}

-- the most steps of the lowered module's run where its source has n
abbrev pub lowered_steps : ℕ → ℕ
lowered_steps n = 4 * n + 16

-- The run of the module over classical bits isn't cut, and that of its lowered module does the same under the naming: it issues the same
-- operations with the same answers, writes the same records and ends alike.
pub record RunAlike (m : Module) : Type 0 where
  pub lowered : Module
  pub kept : IsKept m plain_adaptive most_configurations lowered
  pub source_run : BitRun m most_steps
  pub lowered_run : BitRun lowered (lowered_steps most_steps)
  pub over : source_run.is_shot.end ≢ Cut
  pub same : DoTheSame (naming_of m) source_run lowered_run
