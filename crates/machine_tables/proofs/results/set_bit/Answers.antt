use Rattle.machine_tables.proofs.Bits.{bit-insert}
use Rattle.machine_tables.proofs.results.set_bit.Goals as goal

pub returns : goal.returns
returns c = bit-insert c.args.results.now c.insert.new.self c.args.r c.args.bit (rw c.unwrap.ensures at c.insert.ensures.updates)
