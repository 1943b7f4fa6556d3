use Rattle.printable_values.proofs.Integers.{constant-prints}
use Rattle.printable_values.proofs.laws.constants_print.Goals as goal

pub returns : goal.returns
returns c = constant-prints
