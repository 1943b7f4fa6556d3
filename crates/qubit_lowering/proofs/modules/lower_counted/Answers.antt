use Rattle.qubit_lowering.proofs.Kept.{counted, if-refused}
use Rattle.qubit_lowering.proofs.modules.lower_counted.Goals as goal

pub to_module-requires : goal.to_module-requires
to_module-requires c = c.in-Ok.ensures.valid c.requires

pub returns-in-Ok-to_module-clause-lowered : goal.returns-in-Ok-to_module-clause-lowered
returns-in-Ok-to_module-clause-lowered c =
    counted c.args.checked.now c.args.target c.args.budget c.module-module.ensures.admitted c.module-module.ensures.live c.in-Ok.residue c.in-Ok.configurations
    c.in-Ok.ensures.lowered c.lowered_modules_are_sound.ensures c.requires c.in-Ok-to_module.module c.in-Ok-to_module.ensures

pub returns-clause-refused : goal.returns-clause-refused
returns-clause-refused c =
    if-refused c.args.checked.now c.args.target c.args.budget c.module-module.ensures.admitted c.module-module.ensures.live c.in-Err.stop c.in-Err.ensures.refused
