-- Numbers in plain digits, up to a limit.
use Rattle.std.proofs.Common.{◌≡◌, ℕ, ◌+◌, ◌-◌, ◌*◌, ◌≤◌, ◌<◌, Bool, true, false, not, ◌&&◌, eqb, None, Some, List, [], ◌∷◌, refl, sym, arith, true≢false}
use Rattle.std.specs.Char.{is_ascii_digit, digit_value}
use Rattle.std.specs.List.{list_all}
use Rattle.std.specs.Str.Parse.{digits_value_after}
use Rattle.std.proofs.lemmas.Bool.{and_parts}
use Rattle.std.proofs.lemmas.Bool.Decides.{nat_tests}
use Rattle.type_check.specs.code.Numbers.{at_most}
use Rattle.type_check.specs.Required.{is_plain}

digit-value : (c : ℕ) → is_ascii_digit c ≡ true → digit_value c ≡ c - 48
digit-value c h = grind (arith, nat_tests)

value-ge : (n : ℕ) (s : List ℕ) → n ≤ digits_value_after 10 n s
value-ge n [] = omega arith
value-ge n (c ∷ cs) = omega (arith, value-ge (n * 10 + digit_value c) cs)

-- where one more digit is too much, the whole number is
pub too_many : (limit n c : ℕ) (cs : List ℕ) → is_ascii_digit c ≡ true → limit < n * 10 + (c - 48) → at_most limit (digits_value_after 10 n (c ∷ cs)) ≡ None
too_many limit n c cs h e =
    let d = digit-value c h in
    let v : limit < digits_value_after 10 (n * 10 + digit_value c) cs = omega (arith, value-ge (n * 10 + digit_value c) cs) in
    grind (arith, nat_tests)

pub within : (limit n : ℕ) → n ≤ limit → at_most limit n ≡ Some n
within limit n h = grind (arith, nat_tests)

-- plain digits are digits
pub plain_digits : (text : List ℕ) → is_plain text ≡ true → list_all is_ascii_digit text ≡ true
plain_digits [] h = absurd (true≢false (sym h))
plain_digits (c ∷ []) h = by (is_ascii_digit c) h
  where
    by : (b : Bool) → b ≡ true → (b && true) ≡ true
    by true e = refl
    by false e = e
plain_digits (c ∷ d ∷ cs) h = (and_parts (not (eqb c 48)) (list_all is_ascii_digit (c ∷ d ∷ cs)) h).1
