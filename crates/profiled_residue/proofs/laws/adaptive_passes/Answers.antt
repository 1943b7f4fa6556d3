use Rattle.profiled_residue.proofs.Profiles.{adaptive-passes}
use Rattle.profiled_residue.proofs.laws.adaptive_passes.Goals as goal

pub returns : goal.returns
returns c r caps ok fits s rule h = adaptive-passes r caps ok fits s rule h
