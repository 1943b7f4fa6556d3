use Rattle.type_check.specs.Required.{required_qubits, required_results}
use Rattle.typed_runs.specs.Laws.{InvariantHolds, NeverStuck}
use Rattle.typed_runs.proofs.Wholes.{always-runs}
use Rattle.typed_runs.proofs.laws.admitted_modules_run.Goals as goal

pub returns : goal.returns
unfolding InvariantHolds NeverStuck
returns c m limit numbered typed answers n = record {
  run = always-runs m (required_qubits m limit) (required_results m limit) (c.admitted_modules_keep_the_invariant.ensures m limit numbered typed) answers n;
  only = λ es es' rs rs' e e' r r'. c.modules_have_one_run.ensures m answers n es es' rs rs' e e' r r';
}
