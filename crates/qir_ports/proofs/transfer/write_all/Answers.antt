use Rattle.std.proofs.Common.{arith, rules, refl}
use Rattle.std.proofs.lemmas.Grind.{common_steps}
use Rattle.std.proofs.lemmas.List.{take_rest}
use Rattle.qir_ports.specs.Offers.{Offers.none, Offers.more}
use Rattle.qir_ports.proofs.KnownLemmas.{Takes-part}
use Rattle.qir_ports.proofs.transfer.write_all.Goals as goal

pub loop-written-init : goal.loop-written-init
loop-written-init g c = record {
  within = omega arith;
  takes = search rules;
  offers = none;
  later = omega arith;
  empty = λ _. refl;
}

pub loop-written-preserved : goal.loop-written-preserved
loop-written-preserved g c = record {
  within = grind (arith, common_steps);
  takes = Takes-part _ _ _ c.args.bytes.now c.loop-written.written c.in-Ok.n c.loop-written.invariant.takes (rw take_rest at c.in-Ok.ensures.takes);
  offers = more c.loop-written.invariant.offers (omega arith) (rw take_rest at c.in-Ok.ensures.writes);
  later = omega arith;
  empty = grind (arith, common_steps);
}
