use Rattle.std.proofs.Common.{arith}
use Rattle.std.proofs.lemmas.Grind.{common_steps}
use Rattle.ir_values.specs.declared.ids.BlockId.{BlockId}
use Rattle.name_flow.specs.code.Triples.{Triple}
use Rattle.name_flow.proofs.Members.{map-take-more}
use Rattle.name_flow.proofs.marks.push_edges_of.Goals as goal

pub loop-i-preserved : goal.loop-i-preserved
loop-i-preserved c =
    let f : BlockId → Triple = λ s. (s.0, 0, c.args.b) in
    let e = map-take-more f c.args.edges.now c.loop-i.i c.at.result c.at.ensures in
    rw e (grind (arith, common_steps))
