use Rattle.shots.specs.Laws.{ShotsExist}
use Rattle.shots.proofs.laws.shots_exist.Goals as goal
use Rattle.shots.proofs.Existing.{shot-exists}

pub returns : goal.returns
unfolding ShotsExist
returns c m limit numbered typed b n = shot-exists m limit numbered typed c.class_tells_types.ensures c.admitted_modules_keep_the_invariant.ensures b n
