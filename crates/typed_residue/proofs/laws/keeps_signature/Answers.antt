use Rattle.typed_residue.proofs.Rules.{signature}
use Rattle.typed_residue.proofs.laws.keeps_signature.Goals as goal

pub returns : goal.returns
returns c r t limit s ok = signature r t ok limit s
