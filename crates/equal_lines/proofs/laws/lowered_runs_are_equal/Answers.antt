use Rattle.std.proofs.Common.{ap}
use Rattle.equal_lines.proofs.Equal.{equal-runs}
use Rattle.equal_lines.proofs.laws.lowered_runs_are_equal.Goals as goal
use Rattle.equal_lines.specs.Laws.{LoweredRunsAreEqual}
use Rattle.equal_shots.specs.Laws.{LoweredShotsAreEqual}
use Rattle.ir_module.specs.declared.tree.Module.{Module}
use Rattle.sound_lowering.specs.Programs.{naming_of}

pub returns : goal.returns
unfolding LoweredRunsAreEqual LoweredShotsAreEqual
returns c m t budget l numbered typed lowered sound =
    equal-runs m l (naming_of m) budget (c.lowered_shots_are_equal.ensures m t budget lowered.nodes l numbered typed sound) (ap (λ (z : Module). z.globals) lowered.is)
