use Rattle.type_check.specs.Required.{required_qubits, required_results}
use Rattle.typed_runs.specs.Laws.{InvariantHolds, LabelsAreConstants}
use Rattle.typed_runs.proofs.Wholes.{run-labels}
use Rattle.typed_runs.proofs.laws.admitted_modules_write_constants.Goals as goal

pub returns : goal.returns
unfolding InvariantHolds LabelsAreConstants
returns c m limit numbered typed =
    run-labels m (required_qubits m limit) (required_results m limit) (c.admitted_modules_keep_the_invariant.ensures m limit numbered typed)
