use Rattle.typed_residue.proofs.Rules.{types}
use Rattle.typed_residue.proofs.laws.keeps_types.Goals as goal

pub returns : goal.returns
returns c r t limit s ok = types r t ok limit s
