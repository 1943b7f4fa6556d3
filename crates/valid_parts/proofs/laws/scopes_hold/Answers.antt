use Rattle.valid_parts.proofs.Rules.{scopes}
use Rattle.valid_parts.proofs.laws.scopes_hold.Goals as goal

pub returns : goal.returns
returns c p budget nodes shared r made = scopes p budget nodes shared r made
