-- The side rules of tokens: the range of integers and of the numbers of names, the length of strings, equal numbers.
use Rattle.std.specs.Prelude.{ℕ, ◌+◌, ◌-◌, ◌^◌, Bool, true, false, if◌then◌else◌, nat_eq, nat_lt, Option, Some, None, List, [], ◌∷◌}
use Rattle.ir_values.specs.declared.int.Width.{Width}
use Rattle.ir_values.specs.Width.{bits_of}
use Rattle.ir_values.specs.Int.{IntValue}
use Rattle.ir_tokens.specs.declared.kind.Kind.{Kind}
use Rattle.ir_tokens.specs.declared.kind.Kind.TheVariants as kind
use Rattle.ir_tokens.specs.declared.rule.Rule.{Rule}
use Rattle.ir_tokens.specs.declared.rule.Rule.TheVariants.{Syntax, LiteralRange, StringLength}
use Rattle.ir_tokens.specs.declared.token.Token.{Token}
use Rattle.ir_tokens.specs.Numbers.{value_of}

abbrev pub number : Token → ℕ
number t = value_of t.number

-- this rule, unless the test holds
abbrev pub unless : Bool → Rule → Option Rule
unless true r = None
unless false r = Some r

-- the number of a name, group or node is at most 4,294,967,295
abbrev pub numbered : Token → Option Rule
numbered t = unless (nat_lt (number t) (2 ^ 32)) LiteralRange

-- the number n again
abbrev pub same_number : ℕ → Token → Option Rule
same_number n t = unless (nat_eq n (number t)) Syntax

-- a string of n bytes
abbrev pub so_long : ℕ → Token → Option Rule
so_long n t = unless (nat_eq n (number t)) StringLength

-- Integers.

abbrev pub is_negative : Kind → Bool
is_negative kind.Minus = true
is_negative k = false

-- from -2^(w-1) to 2^w - 1, by the sign and the magnitude
abbrev pub fits : ℕ → Bool → ℕ → Bool
fits w true n = nat_lt n (2 ^ (w - 1) + 1)
fits w false n = nat_lt n (2 ^ w)

abbrev pub in_range : ℕ → Token → Option Rule
in_range w t = unless (fits w (is_negative t.kind) (number t)) LiteralRange

-- the bits of -n are those of 2^w - n, and -0 is 0
abbrev pub bits_of_sign : ℕ → Bool → ℕ → ℕ
bits_of_sign w true n = if nat_eq n 0 then 0 else 2 ^ w - n
bits_of_sign w false n = n

abbrev pub integer_of : Width → Token → IntValue
integer_of w t = record { width = w; bits = bits_of_sign (bits_of w) (is_negative t.kind) (number t) }
