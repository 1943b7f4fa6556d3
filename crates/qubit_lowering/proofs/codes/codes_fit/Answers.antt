use Rattle.qubit_lowering.proofs.Returned.{next-fits}
use Rattle.qubit_lowering.proofs.codes.codes_fit.Goals as goal

pub loop-rest-preserved : goal.loop-rest-preserved
loop-rest-preserved c =
    next-fits c.args.nodes.now c.loop-rest.rest.now c.node-item.result c.in-len1-up.len_at_least c.node-item.is c.code_fits.ensures
    c.loop-rest.invariant
