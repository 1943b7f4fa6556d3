use Rattle.bit_backend.proofs.Renaming.{keeps-bits}
use Rattle.bit_backend.proofs.laws.renaming_keeps_bits.Goals as goal

pub returns : goal.returns
returns c = keeps-bits
