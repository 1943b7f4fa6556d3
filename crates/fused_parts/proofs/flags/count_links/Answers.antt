use Rattle.std.proofs.Common.{arith}
use Rattle.fused_parts.proofs.Counting.{no-link, one-link}
use Rattle.fused_parts.proofs.flags.count_links.Goals as goal

pub loop-rest-preserved-then-link-len : goal.loop-rest-preserved-then-link-len
loop-rest-preserved-then-link-len c =
    one-link c.args.links.now c.loop-rest.rest.now c.args.table.now c.loop-rest.table c.set.new.self c.link-item.result c.at-entered.result.now c.more.result
    c.in-len1-up.len_at_least c.link-item.is c.loop-rest.invariant c.at-entered.ensures c.more.ensures c.set.ensures

pub loop-rest-preserved : goal.loop-rest-preserved
loop-rest-preserved c =
    no-link c.args.links.now c.loop-rest.rest.now c.args.table.now c.loop-rest.table c.link-item.result
    c.in-len1-up.len_at_least c.link-item.is c.loop-rest.invariant (λ lt. let f = c.if-link-len.false in let e = c.len.ensures in absurd (omega (arith, lt, f, e)))
