use Rattle.settled_adaptive.proofs.AdaptiveSettles.{printed-accepts}
use Rattle.settled_adaptive.proofs.laws.adaptive_is_accepted.Goals as goal

pub returns : goal.returns
returns c r caps p ok fits undecided is tells within = printed-accepts r caps p ok fits undecided is tells within
