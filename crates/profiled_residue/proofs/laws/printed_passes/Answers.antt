use Rattle.profiled_residue.proofs.Profiles.{passes-profile}
use Rattle.profiled_residue.proofs.laws.printed_passes.Goals as goal

pub returns : goal.returns
returns c r t ok fits = passes-profile r t ok fits
