use Rattle.profile_rules.proofs.Base.{base-exact}
use Rattle.profile_rules.proofs.laws.base_lists_are_exact.Goals as goal

pub returns : goal.returns
returns c shape m e entry q = base-exact shape m e entry q
