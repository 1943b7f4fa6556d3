use Rattle.path_search.proofs.Order.{trans, irrefl, decides}
use Rattle.path_search.proofs.laws.paths_are_ordered.Goals as goal

pub returns : goal.returns
returns c = record { onward = trans; strict = irrefl; total = decides }
