use Rattle.qir_meaning.proofs.Bounds.{ended-stays}
use Rattle.qir_meaning.proofs.laws.ended_runs_stay.Goals as goal

pub returns : goal.returns
returns c m a n k es rs e le not r = ended-stays m a n k es rs e le not r
