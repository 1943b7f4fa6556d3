use Rattle.qir_cli.proofs.Admitting.{fault-placed, stopped-admits, kept-admits}
use Rattle.qir_cli.proofs.admitted.admit_module.Goals as goal

pub stop_at-requires : goal.stop_at-requires
stop_at-requires c = fault-placed c.args.parsed c.requires.placed c.in-Err.why c.in-Err.ensures.stopped

pub returns-in-Err : goal.returns-in-Err
returns-in-Err c = stopped-admits c.args.parsed c.in-Err.why c.in-Err.ensures.stopped c.stop_at.result c.stop_at.ensures

pub returns-in-Ok : goal.returns-in-Ok
returns-in-Ok c = kept-admits c.args.parsed c.in-Ok.checked.tree c.in-Ok.ensures.admitted c.in-Ok.ensures.typed
