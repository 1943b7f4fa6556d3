use Rattle.lasting_runs.proofs.Lasting.{does-in-time}
use Rattle.lasting_runs.proofs.laws.modules_do_the_same.Goals as goal

pub returns : goal.returns
returns c = does-in-time
