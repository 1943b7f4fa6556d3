use Rattle.settled_lowering.proofs.BaseSettles.{printed-accepts}
use Rattle.settled_lowering.proofs.laws.base_is_accepted.Goals as goal

pub returns : goal.returns
returns c r p ok fits is = printed-accepts r p ok fits is
