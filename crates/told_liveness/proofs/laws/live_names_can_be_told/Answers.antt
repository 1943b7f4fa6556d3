use Rattle.told_liveness.proofs.Told.{has-test}
use Rattle.told_liveness.proofs.laws.live_names_can_be_told.Goals as goal

pub returns : goal.returns
returns c m = has-test m
