use Rattle.valid_parts.proofs.Rules.{types}
use Rattle.valid_parts.proofs.laws.types_hold.Goals as goal

pub returns : goal.returns
returns c p budget nodes shared r made = types p budget nodes shared r made
