use Rattle.std.proofs.Common.{◌≡◌, is_some, length, map}
use Rattle.run_commands.specs.Words.{all_of, digit_bit}
use Rattle.run_commands.proofs.words.are_bits.Given as goal

abbrev pub invariant-loop-digits : goal.invariant-loop-digits
invariant-loop-digits l = is_some (all_of (map digit_bit l.fn.digits)) ≡ is_some (all_of (map digit_bit l.digits))

abbrev pub decreases-loop-digits : goal.decreases-loop-digits
decreases-loop-digits l = length l.digits
