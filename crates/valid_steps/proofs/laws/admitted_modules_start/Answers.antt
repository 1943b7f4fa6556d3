use Rattle.typed_runs.specs.Laws.{InvariantHolds}
use Rattle.valid_steps.specs.Laws.{AdmittedModulesStart}
use Rattle.valid_steps.proofs.Starts.{starts}
use Rattle.valid_steps.proofs.laws.admitted_modules_start.Goals as goal

pub returns : goal.returns
unfolding AdmittedModulesStart InvariantHolds
returns c m limit t live e numbered typed is = starts m limit t live e is (c.admitted_modules_keep_the_invariant.ensures m limit numbered typed)
