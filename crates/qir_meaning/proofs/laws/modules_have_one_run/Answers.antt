use Rattle.qir_meaning.proofs.Bounds.{one-run}
use Rattle.qir_meaning.proofs.laws.modules_have_one_run.Goals as goal

pub returns : goal.returns
returns c m a n es es' rs rs' e e' r r' = one-run m a n es es' rs rs' e e' r r'
