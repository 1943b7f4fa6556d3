use Rattle.typed_residue.proofs.Numbers.{stated-plain}
use Rattle.typed_residue.proofs.laws.keeps_stated.Goals as goal

pub returns : goal.returns
returns c r t limit s ok fits = stated-plain r t ok limit fits s
