-- Numbers in halves, and numbers that texts write in digits.
use Rattle.std.specs.Prelude.{ℕ, ◌+◌, ◌-◌, ◌*◌, ◌/◌, ◌%◌, ◌^◌, nat_lt, if◌then◌else◌, List}
use Rattle.std.specs.Str.Parse.{digits_value}
use Rattle.ir_text.specs.Forms.{is_digits}
use Rattle.ir_tokens.specs.declared.number.Number.{Number}

-- the number of two halves
abbrev pub value_of : Number → ℕ
value_of n = n.high * 2 ^ 64 + n.low

-- the halves of a number
abbrev pub halves : ℕ → Number
halves n = record { high = n / 2 ^ 64; low = n % 2 ^ 64 }

-- a number of 2^128 or more counts as 2^128 - 1
abbrev pub capped : ℕ → ℕ
capped n = if nat_lt n (2 ^ 128) then n else 2 ^ 128 - 1

-- the number that a text writes in digits; 0 where there are none, or other bytes among them
abbrev pub number_in : List ℕ → ℕ
number_in s = if is_digits s then capped (digits_value 10 s) else 0
