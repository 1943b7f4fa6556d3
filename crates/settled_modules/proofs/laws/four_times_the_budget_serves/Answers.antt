use Rattle.settled_modules.proofs.Again.{four-times}
use Rattle.settled_modules.proofs.laws.four_times_the_budget_serves.Goals as goal

pub returns : goal.returns
returns c m t budget l h typed =
    four-times c.lowered_modules_are_lowered_again.ensures c.budgets_count_configurations.ensures c.lowered_modules_have_few_instructions.ensures m t budget l h typed
