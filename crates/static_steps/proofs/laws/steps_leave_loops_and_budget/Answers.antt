use Rattle.static_steps.proofs.StepKinds.{never}
use Rattle.static_steps.proofs.laws.steps_leave_loops_and_budget.Goals as goal

pub returns : goal.returns
returns c m t live g = never m t live g
