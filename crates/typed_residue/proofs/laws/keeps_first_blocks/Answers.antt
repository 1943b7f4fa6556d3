use Rattle.typed_residue.proofs.FirstBlocks.{first-blocks}
use Rattle.typed_residue.proofs.laws.keeps_first_blocks.Goals as goal

pub returns : goal.returns
returns c r t limit s ok = first-blocks r t ok limit s
