-- The number that plain digits write.
use Rattle.std.proofs.Common.{◌≡◌, refl, ℕ, ◌<◌, ◌^◌, Bool, true, false, not, ◌&&◌, ◌≢◌, true≢false, nat_eq, cond, List, ◌∙◌, ap, sym, arith, None, Some}
use Rattle.std.specs.Prelude.{decimal, nat_lt}
use Rattle.std.specs.Cmp.{unsigned_Decides}
use Rattle.std.specs.Cmp.Lexicographic.{pointwise, pointwise_decides, other_text}
use Rattle.std.specs.Str.Parse.{digits_value}
use Rattle.std.proofs.lemmas.Bool.{and_parts, ltb-true}
use Rattle.std.proofs.lemmas.Fmt.{digits_value-decimal}
use Rattle.std.proofs.lemmas.Str.Parse.{numerals_by_value, tells_digits}
use Rattle.ir_values.specs.Calls.{same_text}
use Rattle.ir_values.specs.Decimals.{decimal_value}

holds : (b c : Bool) (n : ℕ) → b ≡ true → c ≡ true → Some n ≡ cond (b && c) (Some n) None
holds b c n e1 e2 = rw (e1, e2) refl

pub decimal_value-digits : (n : ℕ) (text : List ℕ) → n < 2 ^ 64 → text ≡ decimal n → Some n ≡ decimal_value text
decimal_value-digits n text small e =
    let value : digits_value 10 text ≡ n = ap (digits_value 10) e ∙ digits_value-decimal (numerals_by_value _ tells_digits) n small in
    holds (nat_lt n (2 ^ 64)) (same_text text (decimal n)) n (grind (arith, small)) ((pointwise_decides unsigned_Decides text (decimal n)).1 e)
    ∙ ap (λ v. cond (nat_lt v (2 ^ 64) && same_text text (decimal v)) (Some v) None) (sym value)

-- a text that is the digits of no number has no value
pub decimal_value-none : (text : List ℕ) → ((n : ℕ) → n < 2 ^ 64 → text ≡ decimal n → ⊥) → None ≡ decimal_value text
decimal_value-none text never = by-test (nat_lt n (2 ^ 64) && same_text text (decimal n)) refl
  where
    n : ℕ
    n = digits_value 10 text

    by-test : (b : Bool) → (nat_lt n (2 ^ 64) && same_text text (decimal n)) ≡ b → None ≡ cond b (Some n) None
    by-test false e = refl
    by-test true e =
        let p = and_parts (nat_lt n (2 ^ 64)) (same_text text (decimal n)) e in
        absurd (never n (ltb-true n (2 ^ 64) p.0) ((pointwise_decides unsigned_Decides text (decimal n)).0 p.1))

pub other_from_not : (xs ys : List ℕ) → true ≡ not (pointwise nat_eq xs ys) → xs ≢ ys
other_from_not xs ys h = by (pointwise nat_eq xs ys) refl
  where
    by : (b : Bool) → pointwise nat_eq xs ys ≡ b → xs ≢ ys
    by true e = absurd (true≢false (h ∙ ap not e))
    by false e = other_text xs ys (sym e)
