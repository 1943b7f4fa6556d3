use Rattle.typed_runs.specs.Laws.{InvariantHolds}
use Rattle.typed_runs.proofs.Wholes.{fits-always}
use Rattle.typed_runs.proofs.laws.admitted_modules_keep_the_invariant.Goals as goal

pub returns : goal.returns
unfolding InvariantHolds
returns c m limit numbered typed = fits-always m limit numbered typed c.class_tells_types.ensures c.words_tell_types.ensures
