use Rattle.ir_values.proofs.Doubles.{found_ends, nothing_ends}
use Rattle.ir_values.proofs.double.is_double.Goals as goal

pub returns-in-Some : goal.returns-in-Some
returns-in-Some c = found_ends c.args.bytes.now _ c.is_empty.result c.in-Some.ensures c.is_empty.ensures

pub returns-in-None : goal.returns-in-None
returns-in-None c = nothing_ends c.args.bytes.now c.in-None.ensures
