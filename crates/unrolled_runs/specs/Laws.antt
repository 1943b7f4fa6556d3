-- Runs of modules that are lowered without loops.
use Rattle.std.specs.Prelude.{◌≡◌, ◌≢◌, ℕ, ◌≤◌, false, List, length}
use Rattle.backend_api.specs.declared.operation.Answer.{Answer}
use Rattle.backend_api.specs.declared.operation.Event.{Event}
use Rattle.ir_module.specs.declared.tree.Module.{Module}
use Rattle.ir_module.specs.Numbered.{Numbered}
use Rattle.kept_items.specs.declared.target.Target.{Target}
use Rattle.kept_items.specs.Targets.{has_loops}
use Rattle.output_records.specs.declared.record.Record.{Record}
use Rattle.qir_meaning.specs.Runs.{RunEnd, Cut, Runs}
use Rattle.sound_lowering.specs.Programs.{IsLowered}

-- A run comes to no configuration again. So with as many steps as constant evaluation reaches configurations it is not cut, whatever
-- the machine answers.
abbrev pub UnrolledRunsEnd : Type 0
UnrolledRunsEnd =
    (m : Module) (t : Target) (budget : ℕ) (l : Module) (lowered : IsLowered m t budget l)
    → Numbered m
    → has_loops t ≡ false
    → (answers : List Answer) (n : ℕ) (es : List Event) (rs : List Record) (e : RunEnd)
    → length lowered.nodes ≤ n
    → Runs m answers n es rs e
    → e ≢ Cut
