use Rattle.base_order.specs.Laws.{BaseKeepsOrder}
use Rattle.base_order.proofs.Whole.{keeps-order}
use Rattle.base_order.proofs.laws.base_keeps_order.Goals as goal

pub returns : goal.returns
unfolding BaseKeepsOrder
returns c p nodes r base h = keeps-order p nodes r h base c.admitted_modules_start.ensures c.steps_keep_configurations.ensures c.steps_issue_calls.ensures
