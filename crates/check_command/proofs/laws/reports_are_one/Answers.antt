use Rattle.check_command.proofs.laws.reports_are_one.Goals as goal
use Rattle.check_command.proofs.Exist.{reports-one}

pub returns : goal.returns
returns c = reports-one
