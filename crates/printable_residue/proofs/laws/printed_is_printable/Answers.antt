use Rattle.printable_residue.proofs.Whole.{printable}
use Rattle.printable_residue.proofs.laws.printed_is_printable.Goals as goal

pub returns : goal.returns
returns c = λ r t ok pieces. printable r t ok pieces (c.printed_is_numbered.ensures r t ok)
