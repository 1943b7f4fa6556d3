use Rattle.typed_residue.proofs.Rules.{names}
use Rattle.typed_residue.proofs.laws.keeps_names.Goals as goal

pub returns : goal.returns
returns c r t limit s ok = names r t ok limit s
