use Rattle.live_names.proofs.Walks.{accepts-printed}
use Rattle.live_names.proofs.laws.lowered_is_accepted.Goals as goal

pub returns : goal.returns
returns c r caps p ok fits undecided is tells = accepts-printed r caps p ok fits undecided is tells
