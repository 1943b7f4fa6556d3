use Rattle.valid_parts.proofs.Rules.{constants}
use Rattle.valid_parts.proofs.laws.constants_hold.Goals as goal

pub returns : goal.returns
returns c p budget nodes shared r made = constants p budget nodes shared r made c.items_are_valid.ensures
