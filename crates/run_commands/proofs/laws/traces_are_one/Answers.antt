use Rattle.run_commands.specs.Laws.{TracesAreOne}
use Rattle.run_commands.proofs.laws.traces_are_one.Goals as goal
use Rattle.run_commands.proofs.Single.{one-trace}

pub returns : goal.returns
unfolding TracesAreOne
returns c m limit numbered typed by n x y a b p q = one-trace m limit numbered typed n c.shots_are_one.ensures by x y a b p q
