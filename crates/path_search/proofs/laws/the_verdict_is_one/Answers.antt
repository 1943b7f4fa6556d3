use Rattle.path_search.proofs.Verdict.{one_verdict, not_both}
use Rattle.path_search.proofs.laws.the_verdict_is_one.Goals as goal

pub returns : goal.returns
returns g c s = record { not_both = not_both s; one = one_verdict s }
