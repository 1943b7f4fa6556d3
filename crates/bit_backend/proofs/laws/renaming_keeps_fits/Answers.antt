use Rattle.bit_backend.proofs.Renaming.{keeps-fits}
use Rattle.bit_backend.proofs.laws.renaming_keeps_fits.Goals as goal

pub returns : goal.returns
returns c = keeps-fits
