use Rattle.profile_rules.proofs.Adaptive.{adaptive-exact}
use Rattle.profile_rules.proofs.laws.adaptive_lists_are_exact.Goals as goal

pub returns : goal.returns
returns c m e cyclic returning tables = adaptive-exact m e cyclic returning tables
