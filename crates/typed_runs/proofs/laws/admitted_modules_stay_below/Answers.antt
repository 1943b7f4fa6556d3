use Rattle.type_check.specs.Required.{required_qubits, required_results}
use Rattle.typed_runs.specs.Laws.{InvariantHolds, NamesRequired}
use Rattle.typed_runs.proofs.Wholes.{stays-below}
use Rattle.typed_runs.proofs.laws.admitted_modules_stay_below.Goals as goal

pub returns : goal.returns
unfolding InvariantHolds NamesRequired
returns c m limit numbered typed =
    stays-below m (required_qubits m limit) (required_results m limit) (c.admitted_modules_keep_the_invariant.ensures m limit numbered typed)
