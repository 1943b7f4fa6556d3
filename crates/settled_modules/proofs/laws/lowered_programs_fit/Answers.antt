use Rattle.settled_modules.proofs.Fitting.{lowered-fits}
use Rattle.settled_modules.proofs.laws.lowered_programs_fit.Goals as goal

pub returns : goal.returns
returns c m t budget l h =
    lowered-fits c.rules_hold.ensures c.steps_keep_configurations.ensures c.budgets_count_configurations.ensures m t budget l h
