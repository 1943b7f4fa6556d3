use Rattle.shots.specs.Laws.{ShotsAreOne}
use Rattle.shots.proofs.laws.shots_are_one.Goals as goal
use Rattle.shots.proofs.Single.{shot-is-one}

pub returns : goal.returns
unfolding ShotsAreOne
returns c m limit numbered typed b n x y p q = shot-is-one m limit numbered typed c.class_tells_types.ensures c.admitted_modules_keep_the_invariant.ensures b n x y p q
