use Rattle.std.proofs.Common.{arith}
use Rattle.admission.proofs.Flows.{flows_step}
use Rattle.admission.proofs.tables.flows.Goals as goal

pub loop-g-preserved : goal.loop-g-preserved
loop-g-preserved c =
    flows_step c.args.m.now.funcs c.loop-g.g c.loop-g.flows c.push.new.self c.in_ok-flow_of.field-0 (omega (arith, c.loop-g-test.true, c.len-g-end.ensures)) c.in_ok-flow_of.ensures
    c.in_ok-push.ensures.ok c.loop-g.invariant
