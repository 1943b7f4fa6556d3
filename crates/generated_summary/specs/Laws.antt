-- There is one summary, and a lowered module does what its source does.
use Rattle.std.specs.Prelude.{◌≡◌, ◌≢◌, ℕ, ◌≤◌, false}
use Rattle.generated_summary.specs.Alike.{lowered_steps}
use Rattle.generated_summary.specs.BitRuns.{BitRun, DoTheSame}
use Rattle.generated_summary.specs.declared.summary.Summary.{Summary}
use Rattle.generated_summary.specs.Summaries.{Sums}
use Rattle.ir_module.specs.declared.tree.Module.{Module}
use Rattle.ir_module.specs.Numbered.{Numbered}
use Rattle.kept_items.specs.declared.target.Target.{Target}
use Rattle.kept_items.specs.Targets.{has_loops}
use Rattle.qir_meaning.specs.Runs.{Cut}
use Rattle.qubit_lowering.specs.Kept.{IsKept}
use Rattle.sound_lowering.specs.Programs.{IsLowered, naming_of, source_limit}
use Rattle.type_check.specs.Faults.{Typed}

-- a module without faults has at most one summary
abbrev pub SummariesAreOne : Type 0
SummariesAreOne =
    (m : Module) (limit : ℕ) (t : Target) (budget n : ℕ) (x y : Summary)
    → Numbered m
    → Typed m limit
    → Sums m t budget n x
    → Sums m t budget n y
    → x ≡ y

-- one that has a lowered module has a summary
abbrev pub SummariesExist : Type 0
SummariesExist =
    (m : Module) (limit : ℕ) (t : Target) (budget n : ℕ) (l : Module)
    → Numbered m
    → Typed m limit
    → IsLowered m t budget l
    → (s : Summary) × Sums m t budget n s

-- Without loops and with a step for each configuration at least, the run of an admitted module over classical bits isn't cut, and its
-- lowered module does the same.
abbrev pub RunsAreAlike : Type 0
RunsAreAlike =
    (m : Module) (t : Target) (budget n : ℕ) (l : Module) (x : BitRun m n) (y : BitRun l (lowered_steps n))
    → Numbered m
    → Typed m source_limit
    → IsKept m t budget l
    → has_loops t ≡ false
    → budget ≤ n
    → (x.is_shot.end ≢ Cut) × DoTheSame (naming_of m) x y
