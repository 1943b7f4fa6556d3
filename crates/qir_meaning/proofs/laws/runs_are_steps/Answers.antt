use Rattle.qir_meaning.proofs.Forms.{runs-are-steps}
use Rattle.qir_meaning.proofs.laws.runs_are_steps.Goals as goal

pub returns : goal.returns
returns c m a n es rs e = runs-are-steps m a n es rs e
