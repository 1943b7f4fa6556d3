use Rattle.std.proofs.Common.{length, map}
use Rattle.run_commands.specs.Words.{digit_bit}
use Rattle.run_commands.proofs.Reading.{Remains}
use Rattle.run_commands.proofs.words.bits_of.Given as goal

abbrev pub invariant-loop-digits : goal.invariant-loop-digits
invariant-loop-digits l = Remains (map digit_bit l.fn.digits) (map digit_bit l.digits) l.bits

abbrev pub decreases-loop-digits : goal.decreases-loop-digits
decreases-loop-digits l = length l.digits
