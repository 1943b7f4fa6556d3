use Rattle.lowering_budgets.proofs.Budgets.{counts}
use Rattle.lowering_budgets.proofs.laws.budgets_count_configurations.Goals as goal

pub returns : goal.returns
returns c m t budget l lowered = counts m t budget l lowered
