use Rattle.type_check.specs.Required.{required_qubits, required_results}
use Rattle.typed_runs.specs.Laws.{FixedNamingFits, NamesRequired}
use Rattle.typed_runs.proofs.laws.admitted_modules_are_kept_apart.Goals as goal

pub returns : goal.returns
unfolding FixedNamingFits NamesRequired
returns c m limit numbered typed =
    c.fixed_naming_keeps_apart.ensures m (required_qubits m limit) (required_results m limit) (c.admitted_modules_stay_below.ensures m limit numbered typed)
