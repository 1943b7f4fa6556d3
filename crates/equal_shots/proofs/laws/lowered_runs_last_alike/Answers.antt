use Rattle.equal_shots.specs.Laws.{LoweredRunsLastAlike}
use Rattle.equal_shots.proofs.laws.lowered_runs_last_alike.Goals as goal
use Rattle.sound_lowering.specs.Programs.{naming_of}

pub returns : goal.returns
unfolding LoweredRunsLastAlike
returns c m t budget nodes l sound = (
  c.modules_last_alike.ensures m l (naming_of m) budget sound.source_runs sound.lowered_runs sound.same,
  c.modules_do_the_same.ensures m l (naming_of m) budget sound.source_runs sound.lowered_runs sound.same,
)
