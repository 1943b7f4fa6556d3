use Rattle.qir_machine.proofs.Answered.{returning-does, returning-refused}
use Rattle.qir_machine.proofs.machine.Machine.measure_returning.Goals as goal

pub returns-in-None-clause-does : goal.returns-in-None-clause-does
returns-in-None-clause-does g c =
    let a = rw c.in-None.is at c.in_ok-measure.ensures.asked in
    rw (c.give.ensures.flow, c.give.ensures.frames) (returning-does c.args.self.now c.measure.new.self c.args.x c.in_ok-op.op c.args.args c.in_ok-op.ensures c.requires.gate _ _ a.1 a.2 a.3 a.4 a.0)

pub returns-in-Some-clause-does : goal.returns-in-Some-clause-does
returns-in-Some-clause-does g c =
    let a = rw c.in-Some.is at c.in_ok-measure.ensures.asked in
    returning-refused c.args.self.now c.measure.new.self c.args.x c.in_ok-op.op c.args.args c.in_ok-op.ensures a.1 c.in-Some.flow _ _ a.0 a.2 a.3 a.4
