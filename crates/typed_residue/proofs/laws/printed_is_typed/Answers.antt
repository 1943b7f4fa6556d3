use Rattle.typed_residue.proofs.Typed.{typed}
use Rattle.typed_residue.proofs.laws.printed_is_typed.Goals as goal

pub returns : goal.returns
returns c r t limit ok fits = typed r t ok limit fits
