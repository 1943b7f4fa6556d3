use Rattle.profile_rules.proofs.Order.{list-exact}
use Rattle.profile_rules.proofs.laws.lists_are_exact.Goals as goal

pub returns : goal.returns
returns c rules numbered m = list-exact rules numbered m
