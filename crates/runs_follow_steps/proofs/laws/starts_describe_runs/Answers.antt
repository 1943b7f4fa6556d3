use Rattle.runs_follow_steps.proofs.Starts.{describes-start}
use Rattle.runs_follow_steps.proofs.laws.starts_describe_runs.Goals as goal

pub returns : goal.returns
returns c m live e answers h = describes-start m live e answers h
