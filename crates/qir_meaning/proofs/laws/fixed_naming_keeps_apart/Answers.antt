use Rattle.qir_meaning.proofs.laws.fixed_naming_keeps_apart.Goals as goal
use Rattle.qir_meaning.proofs.Apart.{keeps-apart}

pub returns : goal.returns
returns c = keeps-apart
