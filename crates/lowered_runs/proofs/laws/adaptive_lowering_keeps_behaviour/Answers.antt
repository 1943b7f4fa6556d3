use Rattle.lowered_runs.proofs.Behaves.{adaptive-behaves}
use Rattle.lowered_runs.proofs.laws.adaptive_lowering_keeps_behaviour.Goals as goal

pub returns : goal.returns
returns c = adaptive-behaves c.items_run.ensures c.marks_pass.ensures c.tails_run.ensures c.returns_run.ensures c.starts_run.ensures c.steps_keep_configurations.ensures c.admitted_modules_keep_the_invariant.ensures
