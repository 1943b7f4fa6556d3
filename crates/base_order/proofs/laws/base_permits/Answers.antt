use Rattle.base_order.specs.Laws.{BasePermits}
use Rattle.base_order.proofs.Whole.{permits}
use Rattle.base_order.proofs.laws.base_permits.Goals as goal

pub returns : goal.returns
unfolding BasePermits
returns c p nodes r base h = permits p nodes r h base c.admitted_modules_start.ensures c.steps_keep_configurations.ensures c.items_are_valid.ensures
