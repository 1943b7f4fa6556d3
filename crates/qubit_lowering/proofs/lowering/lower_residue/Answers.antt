use Rattle.std.proofs.Common.{length, refl}
use Rattle.qubit_lowering.specs.Lowered.{IsLoweredFrom}
use Rattle.qubit_lowering.proofs.Kept.{fused, valid}
use Rattle.qubit_lowering.proofs.lowering.lower_residue.Goals as goal

from : (c : goal.After-drop-nodes-inside) → IsLoweredFrom c.args.checked.now c.args.target c.args.budget c.in-Ok-source_residue.residue (length c.in-Ok.nodes)
from c = record {
  nodes = c.in-Ok.nodes;
  explored = c.in-Ok.ensures.accepted;
  residue = c.in-Ok-source_residue.ensures.residue;
  number = refl;
  within = c.in-Ok.ensures.within;
  codes = c.in-Ok.ensures.codes;
  few_values = c.in-Ok-source_residue.ensures.few_values;
  few_parameters = c.in-Ok-source_residue.ensures.few_parameters;
}

pub returns-in-Ok-source_residue-clause-valid : goal.returns-in-Ok-source_residue-clause-valid
returns-in-Ok-source_residue-clause-valid c =
    valid c.args.checked.now c.args.target c.args.budget c.module-module.ensures.admitted c.module-module.ensures.live c.in-Ok-source_residue.residue
    (length c.in-Ok.nodes) (from c) c.lowered_programs_are_valid.ensures

pub returns-in-Ok-source_residue-clause-fused : goal.returns-in-Ok-source_residue-clause-fused
returns-in-Ok-source_residue-clause-fused c =
    fused c.args.checked.now c.args.target c.args.budget c.module-module.ensures.admitted c.module-module.ensures.live c.in-Ok-source_residue.residue
    (length c.in-Ok.nodes) (from c) c.lowered_parts_are_fused.ensures
