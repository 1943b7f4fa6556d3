-- Numbers in decimal digits.
use Rattle.std.specs.Prelude.{ℕ, ◌^◌, ◌&&◌, nat_lt, if◌then◌else◌, Option, None, Some, List, decimal}
use Rattle.std.specs.Str.Parse.{digits_value}
use Rattle.ir_values.specs.Calls.{same_text}

-- the number below 2 to the 64 that a text writes in decimal digits alone, with no leading zero before another digit
abbrev pub decimal_value : List ℕ → Option ℕ
decimal_value text =
    let n = digits_value 10 text in if nat_lt n (2 ^ 64) && same_text text (decimal n) then Some n else None
