use Rattle.typed_residue.proofs.Rules.{cases}
use Rattle.typed_residue.proofs.laws.keeps_cases.Goals as goal

pub returns : goal.returns
returns c r t limit s ok = cases r t ok limit s
