use Rattle.lowered_runs.proofs.Behaves.{base-behaves}
use Rattle.lowered_runs.proofs.laws.base_lowering_keeps_behaviour.Goals as goal

pub returns : goal.returns
returns c = base-behaves c.base_items_run.ensures c.base_marks_pass.ensures c.base_returns_run.ensures c.base_starts_run.ensures c.steps_keep_configurations.ensures c.admitted_modules_keep_the_invariant.ensures
