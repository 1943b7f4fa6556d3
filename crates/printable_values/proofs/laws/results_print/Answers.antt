use Rattle.printable_values.proofs.Integers.{binary-prints, convert-prints}
use Rattle.printable_values.proofs.laws.results_print.Goals as goal

pub returns : goal.returns
returns c = record { binary = binary-prints; convert = convert-prints }
