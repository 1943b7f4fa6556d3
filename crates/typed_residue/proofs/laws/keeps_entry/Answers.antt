use Rattle.typed_residue.proofs.Rules.{entry}
use Rattle.typed_residue.proofs.laws.keeps_entry.Goals as goal

pub returns : goal.returns
returns c r t limit s ok = entry r t ok limit s
