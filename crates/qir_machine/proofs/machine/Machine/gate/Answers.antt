use Rattle.machine_frames.proofs.Operands.{if-ok}
use Rattle.qir_machine.proofs.Answered.{gate-does, gate-refused}
use Rattle.qir_machine.proofs.machine.Machine.gate.Goals as goal

pub returns-in-Ok-clause-does : goal.returns-in-Ok-clause-does
returns-in-Ok-clause-does g c x =
    rw (c.go_on.ensures.flow, c.go_on.ensures.frames) (gate-does c.args.self.now x c.args.op _ _ c.in-Ok.ensures.answered c.gate.ensures.keeps)

pub returns-in-Err-clause-does : goal.returns-in-Err-clause-does
returns-in-Err-clause-does g c =
    if-ok c.refused.result _ _ (λ fl h x. gate-refused c.args.self.now x c.args.op c.in-Err.turned fl _ _ c.in-Err.ensures.refused c.gate.ensures.keeps h) c.refused.ensures
