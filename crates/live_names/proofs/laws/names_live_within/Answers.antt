use Rattle.live_names.proofs.Walks.{lives-within}
use Rattle.live_names.proofs.laws.names_live_within.Goals as goal

pub returns : goal.returns
returns c r caps live ok tells = lives-within r caps live ok tells
