use Rattle.std.proofs.Common.{rules}
use Rattle.name_flow.specs.Tables.{live}
use Rattle.name_flow.proofs.flow.Flow.live_at.Goals as goal

pub returns-in_default : goal.returns-in_default
unfolding live
returns-in_default c = search rules

pub returns-in-Some-next : goal.returns-in-Some-next
unfolding live
returns-in-Some-next c = search rules

pub returns-in-None : goal.returns-in-None
unfolding live
returns-in-None c = search rules
