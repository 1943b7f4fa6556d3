use Rattle.bit_backend.proofs.Writes.{bit_in-insert}
use Rattle.bit_backend.proofs.table.write.Goals as goal

pub returns-clause-bits : goal.returns-clause-bits
returns-clause-bits c = bit_in-insert c.args.table.now c.insert.new.self c.args.qubit c.args.bit (rw c.unwrap.ensures at c.insert.ensures.updates)
