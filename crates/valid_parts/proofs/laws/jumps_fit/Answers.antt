use Rattle.valid_parts.proofs.Rules.{fits}
use Rattle.valid_parts.proofs.laws.jumps_fit.Goals as goal

pub returns : goal.returns
returns c p budget nodes shared r made = fits p budget nodes shared r made
