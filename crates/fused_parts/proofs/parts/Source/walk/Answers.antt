use Rattle.fused_parts.specs.Ranks.{part_number}
use Rattle.fused_parts.proofs.Passing.{pass-next}
use Rattle.fused_parts.proofs.parts.Source.walk.Goals as goal

pub loop-rest-preserved : goal.loop-rest-preserved
loop-rest-preserved c =
    pass-next c.args.self.now.m.now c.args.self.now.nodes.now (part_number c.args.self.now.layout.now) c.args.self.now.shared _
    c.loop-rest.node.now c.next-item.result c.loop-rest.rest.now c.loop-rest.flags.now c.loop-rest.making c.in_ok-making.making
    c.in-len1-up.len_at_least c.next-item.is c.in-len1-up-flags.len_at_least c.in_ok-making.ensures c.loop-rest.invariant
