use Rattle.qir_meaning.proofs.Bounds.{only-grow}
use Rattle.qir_meaning.proofs.laws.runs_only_grow.Goals as goal

pub returns : goal.returns
returns c m a n k es es' rs rs' e e' le r r' = only-grow m a n k es es' rs rs' e e' le r r'
