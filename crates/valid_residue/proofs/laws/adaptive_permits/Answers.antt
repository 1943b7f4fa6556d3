use Rattle.valid_residue.specs.Laws.{AdaptivePermits}
use Rattle.valid_residue.proofs.Permits.{adaptive-permits, lines-valid}
use Rattle.valid_residue.proofs.laws.adaptive_permits.Goals as goal

pub returns : goal.returns
unfolding AdaptivePermits
returns c p caps nodes r e h =
    adaptive-permits p nodes r h c.admitted_modules_start.ensures c.steps_keep_configurations.ensures
    (lines-valid p nodes r h c.steps_keep_configurations.ensures c.items_are_valid.ensures) caps e
