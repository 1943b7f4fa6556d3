use Rattle.valid_parts.proofs.Rules.{labels-below}
use Rattle.valid_parts.proofs.laws.labels_hold.Goals as goal

pub returns : goal.returns
returns c p budget nodes shared r made many few = labels-below p budget nodes shared r made c.items_are_valid.ensures many few
