use Rattle.path_search.proofs.Decide.{decided_by}
use Rattle.search_verdicts.proofs.Returning.{straight}
use Rattle.search_verdicts.proofs.laws.searches_without_loops_have_no_cycles.Goals as goal

pub returns : goal.returns
returns g c s nodes all closed n on =
    straight s nodes all (decided_by g.N.PartialEq.eq g.met.N.Eq.laws g.met.N.Exact.exact) closed n on
