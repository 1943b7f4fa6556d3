use Rattle.qir_meaning.proofs.Behaviour.{both-run}
use Rattle.qir_meaning.proofs.laws.simulation_gives_runs.Goals as goal

pub returns : goal.returns
returns c m l N W sim a n = both-run m l N W sim a n
