use Rattle.undecided_parts.proofs.Steps.{steps-keep}
use Rattle.undecided_parts.proofs.laws.steps_keep_undecided.Goals as goal

pub returns : goal.returns
returns c m t live g = steps-keep m t live g
