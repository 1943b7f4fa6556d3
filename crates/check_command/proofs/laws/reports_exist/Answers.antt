use Rattle.check_command.proofs.laws.reports_exist.Goals as goal
use Rattle.check_command.proofs.Exist.{reports-exist}

pub returns : goal.returns
returns c = reports-exist c.base_lists_are_exact.ensures c.adaptive_lists_are_exact.ensures
