use Rattle.std.proofs.Common.{arith}
use Rattle.fused_parts.proofs.Starts.{behind-number, inside-number, last-inside}
use Rattle.fused_parts.proofs.layout.Layout.part.Goals as goal

pub returns-then-i-len : goal.returns-then-i-len
returns-then-i-len c =
    inside-number c.self.inside.flags c.args.self.now c.self.inside.numbers c.self.view_is c.self.invariant c.args.i c.at.result.now
    (let t = c.if-i-len.true in let n = c.len.ensures in omega (arith, t, n)) c.at.ensures

pub at-requires-else-i-len : goal.at-requires-else-i-len
at-requires-else-i-len c =
    last-inside c.self.inside.flags c.args.self.now c.self.inside.numbers c.self.view_is c.self.invariant c.len-else-i-len.result c.len-else-i-len.ensures

pub returns-else-i-len : goal.returns-else-i-len
returns-else-i-len c =
    behind-number c.self.inside.flags c.args.self.now c.self.inside.numbers c.self.view_is c.self.invariant c.args.i c.len-else-i-len.result
    c.at-else-i-len.result.now (let f = c.if-i-len.false in let n = c.len.ensures in omega (arith, f, n)) c.len-else-i-len.ensures c.at-else-i-len.ensures
