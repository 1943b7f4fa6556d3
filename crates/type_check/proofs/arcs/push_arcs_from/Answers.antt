use Rattle.std.proofs.Common.{arith}
use Rattle.std.proofs.lemmas.Grind.{common_steps}
use Rattle.ir_values.specs.declared.ids.BlockId.{BlockId}
use Rattle.type_check.specs.code.Arcs.{Arc}
use Rattle.type_check.proofs.Fronts.{map-take-more}
use Rattle.type_check.proofs.arcs.push_arcs_from.Goals as goal

pub loop-i-preserved : goal.loop-i-preserved
loop-i-preserved c =
    let f : BlockId → Arc = λ t. (t.0, c.args.n) in
    let e = map-take-more f c.args.edges.now c.loop-i.i c.at.result c.at.ensures in
    rw e (grind (arith, common_steps))
