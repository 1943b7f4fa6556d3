use Rattle.std.proofs.Common.{ℕ}
use Rattle.qir_machine.proofs.Along.{Going}
use Rattle.qir_machine.proofs.run.run_on.Given as goal

abbrev pub invariant-loop-used : goal.invariant-loop-used
invariant-loop-used g l = Going l.m l.used l.machine (g.B.Backend.state l.fn.backend) (g.B.Backend.state l.backend)
