-- Numbers that count as 2^128 - 1.
use Rattle.std.proofs.Common.{◌≡◌, ℕ, ◌+◌, ◌-◌, ◌*◌, ◌^◌, ◌≤◌, ◌<◌, true, List, [], ◌∷◌, refl, arith}
use Rattle.std.specs.Char.{is_ascii_digit, digit_value}
use Rattle.std.specs.Str.Parse.{digits_value_after}
use Rattle.std.proofs.lemmas.Bool.{le-ltb, lt-ltb}
use Rattle.std.proofs.lemmas.Bool.Decides.{nat_tests}
use Rattle.ir_tokens.specs.Numbers.{capped}

pub digit-value : (c : ℕ) → is_ascii_digit c ≡ true → digit_value c ≡ c - 48
digit-value c h = grind (arith, nat_tests)

value-ge : (n : ℕ) (s : List ℕ) → n ≤ digits_value_after 10 n s
value-ge n [] = omega arith
value-ge n (c ∷ cs) = omega (arith, value-ge (n * 10 + digit_value c) cs)

-- where one more digit is too much, the whole number is
pub capped_more : (n c : ℕ) (cs : List ℕ) → is_ascii_digit c ≡ true → 2 ^ 128 ≤ n * 10 + (c - 48) → capped (digits_value_after 10 n (c ∷ cs)) ≡ 2 ^ 128 - 1
capped_more n c cs h e =
    let d = digit-value c h in
    rw (le-ltb (digits_value_after 10 (n * 10 + digit_value c) cs) (2 ^ 128) (omega (arith, value-ge (n * 10 + digit_value c) cs))) refl

pub capped_below : (n : ℕ) → n < 2 ^ 128 → capped n ≡ n
capped_below n h = rw (lt-ltb n (2 ^ 128) h) refl
