use Rattle.told_liveness.proofs.Told.{told-once}
use Rattle.told_liveness.proofs.laws.live_names_are_told_in_one_way.Goals as goal

pub returns : goal.returns
returns c m a b is_a is_b = told-once m a b is_a is_b
