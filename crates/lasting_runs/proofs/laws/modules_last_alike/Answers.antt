use Rattle.lasting_runs.proofs.Lasting.{lasts-alike}
use Rattle.lasting_runs.proofs.laws.modules_last_alike.Goals as goal

pub returns : goal.returns
returns c = lasts-alike
