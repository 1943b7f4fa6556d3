use Rattle.run_commands.specs.Laws.{RunsAreOne}
use Rattle.run_commands.proofs.laws.runs_are_one.Goals as goal
use Rattle.run_commands.proofs.Single.{one-run}

pub returns : goal.returns
unfolding RunsAreOne
returns c m limit numbered typed schema bs n x y a b p q = one-run m limit numbered typed n c.shots_are_one.ensures schema bs x y a b p q
