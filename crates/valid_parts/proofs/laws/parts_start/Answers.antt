use Rattle.valid_parts.proofs.Rules.{starts}
use Rattle.valid_parts.proofs.laws.parts_start.Goals as goal

pub returns : goal.returns
returns c p budget nodes shared r made = starts p budget nodes shared r made
