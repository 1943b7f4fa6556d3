use Rattle.fused_parts.proofs.Counting.{no-node, one-node}
use Rattle.fused_parts.proofs.flags.count_edges.Goals as goal

pub loop-rest-preserved : goal.loop-rest-preserved
loop-rest-preserved c =
    one-node c.args.nodes.now c.loop-rest.rest.now c.loop-rest.table c.count_links.new.table c.node-item.result c.as_slice.result.now
    c.in-len1-up.len_at_least c.node-item.is c.loop-rest.invariant c.as_slice.ensures c.count_links.ensures

pub returns : goal.returns
returns c = no-node c.args.nodes.now c.loop-rest.rest.now c.loop-rest.table c.in_default.len_below c.loop-rest.invariant
