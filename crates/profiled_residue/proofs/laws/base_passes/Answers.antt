use Rattle.profiled_residue.proofs.BaseSteps.{base-passes}
use Rattle.profiled_residue.proofs.laws.base_passes.Goals as goal

pub returns : goal.returns
returns c r ok fits s rule h = base-passes r ok fits s rule h
