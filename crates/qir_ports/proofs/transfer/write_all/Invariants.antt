use Rattle.std.proofs.Common.{◌≡◌, ◌-◌, ◌≤◌, [], length, take}
use Rattle.qir_ports.specs.Known.{Takes}
use Rattle.qir_ports.specs.Offers.{Offers}
use Rattle.qir_ports.proofs.transfer.write_all.Given as goal

abbrev pub invariant-loop-written : goal.invariant-loop-written
invariant-loop-written g l = record {
  within : l.written ≤ length l.bytes;
  takes : Takes (g.K.Sink.taken l.fn.k) (take l.written l.bytes) (g.K.Sink.taken l.k);
  offers : Offers g.K.Sink.may_write l.fn.k l.bytes l.written l.k;
  later : g.K.Sink.faults l.fn.k ≤ g.K.Sink.faults l.k;
  empty : l.bytes ≡ [] → l.k ≡ l.fn.k;
}

abbrev pub decreases-loop-written : goal.decreases-loop-written
decreases-loop-written g l = length l.bytes - l.written
