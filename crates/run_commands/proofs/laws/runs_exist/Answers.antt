use Rattle.run_commands.specs.Laws.{RunsExist}
use Rattle.run_commands.proofs.laws.runs_exist.Goals as goal
use Rattle.run_commands.proofs.Single.{some-run}

pub returns : goal.returns
unfolding RunsExist
returns c m limit numbered typed schema bs n = some-run m limit numbered typed n c.shots_exist.ensures schema bs
