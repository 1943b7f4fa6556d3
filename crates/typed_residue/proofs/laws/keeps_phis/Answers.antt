use Rattle.typed_residue.proofs.PhiEntries.{phi-entries}
use Rattle.typed_residue.proofs.laws.keeps_phis.Goals as goal

pub returns : goal.returns
returns c r t limit s ok = phi-entries r t ok limit s
