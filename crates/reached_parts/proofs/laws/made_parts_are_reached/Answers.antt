use Rattle.reached_parts.proofs.Reached.{parts-are-reached}
use Rattle.reached_parts.proofs.laws.made_parts_are_reached.Goals as goal

pub returns : goal.returns
returns c = λ p budget nodes shared explored steps. parts-are-reached p budget nodes shared explored steps
