use Rattle.std.proofs.Common.{arith}
use Rattle.findings.proofs.Parts.{function-more}
use Rattle.findings.proofs.pass.findings_of.Goals as goal

pub loop-number-preserved : goal.loop-number-preserved
loop-number-preserved g c =
    let test = c.loop-number-test.true in
    let end = c.len-number-end.ensures in
    function-more (g.P.Profile.rules c.args.profile.now) c.loop-number.number c.args.m.now.funcs c.loop-number.found c.function.new.found _ (omega (arith, test, end)) c.in_ok-function.ensures c.loop-number.invariant
