use Rattle.typed_residue.proofs.Rules.{knows}
use Rattle.typed_residue.proofs.laws.keeps_known.Goals as goal

pub returns : goal.returns
returns c r t limit s ok = knows r t ok limit s
