use Rattle.run_commands.specs.Laws.{TracesExist}
use Rattle.run_commands.proofs.laws.traces_exist.Goals as goal
use Rattle.run_commands.proofs.Single.{some-trace}

pub returns : goal.returns
unfolding TracesExist
returns c m limit numbered typed by n = some-trace m limit numbered typed n c.shots_exist.ensures by
