-- The bytes behind the longest double at the front of the bytes.
use Rattle.std.specs.Prelude.{◌≡◌, ℕ, Bool, ◌&&◌, ◌||◌, ◌==◌, nat_lt, if◌then◌else◌, List, [], ◌∷◌, length, take, drop, Option, Some, None}
use Rattle.std.specs.Char.{is_ascii_hexdigit}
use Rattle.std.specs.List.{list_all}
use Rattle.ir_values.specs.Bytes.{point, digit_zero, capital_e, small_e, small_x}
use Rattle.ir_values.specs.Double.{after_digits, after_sign, begins_with_digit}

-- what a function found, seen by view, is this
abbrev pub GivesSome : {X Y : Type 0} → (X → Y) → Option X → Option Y → Type 0
GivesSome view (Some x) o = o ≡ Some (view x)
GivesSome view None o = o ≡ None

-- behind an exponent, or before what is none
abbrev pub behind_exponent : List ℕ → List ℕ
behind_exponent [] = []
behind_exponent (c ∷ cs) = if ((c == small_e) || (c == capital_e)) && begins_with_digit (after_sign cs)
    then after_digits (after_sign cs) else (c ∷ cs)

-- a double where a '.' stands behind its digits
abbrev pub behind_point : List ℕ → Option (List ℕ)
behind_point [] = None
behind_point (c ∷ cs) = if c == point then Some (behind_exponent (after_digits cs)) else None

-- behind a decimal double
abbrev pub behind_decimal : List ℕ → Option (List ℕ)
behind_decimal cs = if begins_with_digit (after_sign cs) then behind_point (after_digits (after_sign cs)) else None

-- behind sixteen hexadecimal digits
abbrev pub behind_sixteen : List ℕ → Option (List ℕ)
behind_sixteen cs = if nat_lt (length cs) 16 then None
    else (if list_all is_ascii_hexdigit (take 16 cs) then Some (drop 16 cs) else None)

-- behind a double
abbrev pub behind_double : List ℕ → Option (List ℕ)
behind_double [] = None
behind_double (c ∷ []) = behind_decimal (c ∷ [])
behind_double (c ∷ d ∷ cs) = if (c == digit_zero) && (d == small_x) then behind_sixteen cs else behind_decimal (c ∷ d ∷ cs)
