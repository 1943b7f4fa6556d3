use Rattle.runs_follow_steps.proofs.Live.{flows}
use Rattle.runs_follow_steps.proofs.Ranges.{phis-in, results-in}
use Rattle.runs_follow_steps.proofs.Steps.{follows}
use Rattle.runs_follow_steps.proofs.laws.runs_follow_steps.Goals as goal

pub returns : goal.returns
returns c m t live g ds v ranged tells d = follows m t live (flows m live tells (results-in m ranged) (phis-in m ranged)) g ds v d
