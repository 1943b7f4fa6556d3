use Rattle.std.proofs.Common.{◌+◌, ◌-◌, ◌<◌, ◌≤◌, length, vec_len}
use Rattle.qir_ports.specs.Known.{Gives}
use Rattle.qir_ports.proofs.transfer.read_all.Given as goal

abbrev pub invariant-loop-buffer : goal.invariant-loop-buffer
invariant-loop-buffer g l = record {
  buffer : 0 < vec_len l.buffer;
  within : length l.text ≤ l.limit + 1;
  gives : Gives (g.S.Source.left l.fn.s) l.text (g.S.Source.left l.s);
  later : g.S.Source.faults l.fn.s ≤ g.S.Source.faults l.s;
}

abbrev pub decreases-loop-buffer : goal.decreases-loop-buffer
decreases-loop-buffer g l = l.limit + 1 - length l.text
