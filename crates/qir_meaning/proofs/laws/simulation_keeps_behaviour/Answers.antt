use Rattle.qir_meaning.proofs.Behaviour.{same-behaviour}
use Rattle.qir_meaning.proofs.laws.simulation_keeps_behaviour.Goals as goal

pub returns : goal.returns
returns c m l N W sim = same-behaviour m l N W sim
