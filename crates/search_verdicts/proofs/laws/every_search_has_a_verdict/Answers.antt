use Rattle.path_search.proofs.Decide.{decided_by}
use Rattle.search_verdicts.proofs.Searching.{verdict}
use Rattle.search_verdicts.proofs.laws.every_search_has_a_verdict.Goals as goal

pub returns : goal.returns
returns g c s = verdict s (decided_by g.N.PartialEq.eq g.met.N.Eq.laws g.met.N.Exact.exact)
