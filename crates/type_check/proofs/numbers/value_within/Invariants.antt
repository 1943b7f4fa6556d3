use Rattle.std.proofs.Common.{◌≡◌, ◌≤◌, true, length}
use Rattle.std.specs.Char.{is_ascii_digit}
use Rattle.std.specs.List.{list_all}
use Rattle.std.specs.Str.Parse.{digits_value_after}
use Rattle.type_check.proofs.numbers.value_within.Given as goal

abbrev pub invariant-loop-digits : goal.invariant-loop-digits
invariant-loop-digits l = record {
  digits : list_all is_ascii_digit l.digits ≡ true;
  same : digits_value_after 10 l.value l.digits ≡ digits_value_after 10 0 l.fn.digits;
  fits : l.value ≤ l.limit;
}

abbrev pub decreases-loop-digits : goal.decreases-loop-digits
decreases-loop-digits l = length l.digits
