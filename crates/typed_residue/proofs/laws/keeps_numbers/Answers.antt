use Rattle.typed_residue.proofs.Numbers.{stays-below}
use Rattle.typed_residue.proofs.laws.keeps_numbers.Goals as goal

pub returns : goal.returns
returns c r t limit s ok fits = stays-below r t ok limit fits s
