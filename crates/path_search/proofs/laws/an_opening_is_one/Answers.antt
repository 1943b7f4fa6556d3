use Rattle.path_search.proofs.Unique.{one_opening}
use Rattle.path_search.proofs.laws.an_opening_is_one.Goals as goal

pub returns : goal.returns
returns g c s = one_opening s
