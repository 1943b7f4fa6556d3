use Rattle.std.proofs.Common.{◌≡◌, ◌∙◌, Some, sym, ap}
use Rattle.qir_machine.proofs.Answered.{into-does, into-refused}
use Rattle.qir_machine.proofs.machine.Machine.measure_into.Goals as goal
use Rattle.qir_meaning.specs.Effects.{first_result}

pub returns-in-None-clause-does : goal.returns-in-None-clause-does
returns-in-None-clause-does g c x =
    let is : first_result c.args.op.args ≡ Some c.in-Some.r = ap first_result (sym c.as_slice.ensures) ∙ sym c.in-Some.ensures in
    let a = rw c.in-None.is at c.in_ok-measure.ensures.asked in
    rw (c.go_on.ensures.flow, c.go_on.ensures.frames) (into-does c.args.self.now c.measure.new.self x c.args.op c.in-Some.r is _ _ a.1 a.2 a.3 a.4 a.0)

pub returns-in-Some-2-clause-does : goal.returns-in-Some-2-clause-does
returns-in-Some-2-clause-does g c x =
    let is : first_result c.args.op.args ≡ Some c.in-Some.r = ap first_result (sym c.as_slice.ensures) ∙ sym c.in-Some.ensures in
    let a = rw c.in-Some-2.is at c.in_ok-measure.ensures.asked in
    into-refused c.args.self.now c.measure.new.self x c.args.op c.in-Some.r is a.1 c.in-Some-2.flow _ _ a.0 a.2 a.3 a.4
