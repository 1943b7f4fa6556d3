use Rattle.valid_calls.specs.Laws.{MeasurementsAreNamed}
use Rattle.valid_calls.proofs.Whole.{measurements-named}
use Rattle.valid_calls.proofs.laws.measurements_are_named.Goals as goal

pub returns : goal.returns
unfolding MeasurementsAreNamed
returns c p nodes r h = measurements-named p nodes r h c.steps_keep_configurations.ensures c.steps_issue_calls.ensures
