-- The summary of a module: what its lowering and its run over classical bits come to.
use Rattle.std.specs.Prelude.{◌≡◌, ℕ, true, false, length}
use Rattle.generated_summary.specs.BitRuns.{BitRun}
use Rattle.generated_summary.specs.declared.summary.Summary.{Summary}
use Rattle.ir_module.specs.declared.tree.Module.{Module}
use Rattle.ir_printer.specs.Canonical.{canonical}
use Rattle.kept_items.specs.declared.target.Target.{Target}
use Rattle.kept_items.specs.declared.target.Target.TheVariants as target
use Rattle.sound_lowering.specs.Programs.{IsLowered}

-- The module has a lowered module for the target within the budget, and a run over classical bits with at most n steps. The numbers are
-- those of the configurations that constant evaluation reaches, of the steps, events and records of the run, and of the bytes of the
-- lowered module's canonical text. The lowered module always does the same (`Alike`).
pub record Sums (m : Module) (t : Target) (budget n : ℕ) (s : Summary) : Type 0 where
  pub lowered : Module
  pub is_lowered : IsLowered m t budget lowered
  pub run : BitRun m n
  pub configurations : s.configurations ≡ length is_lowered.nodes
  pub steps : s.steps ≡ run.steps
  pub events : s.events ≡ length run.shot.events
  pub records : s.records ≡ length run.shot.records
  pub bytes : s.bytes ≡ length (canonical lowered)
  pub same : s.same ≡ true

-- the Adaptive Profile without capabilities
abbrev pub plain_adaptive : Target
plain_adaptive = target.Adaptive (record { ints = false; switch = false; returns = false; loops = false })

abbrev pub most_configurations : ℕ
most_configurations = 1000000

abbrev pub most_steps : ℕ
most_steps = 1000000

-- the summary that is told
abbrev pub IsSummary : Module → Summary → Type 0
IsSummary m s = Sums m plain_adaptive most_configurations most_steps s
