use Rattle.std.proofs.Common.{◌≡◌, ℕ, ◌<◌, ◌^◌, sym, ◌∙◌, Ok, arith, rules}
use Rattle.std.specs.Prelude.{decimal}
use Rattle.std.proofs.lemmas.Fmt.{parse-decimal, IsAscii-decimal}
use Rattle.std.proofs.lemmas.Str.{IsUtf8-from_ascii}
use Rattle.ir_values.proofs.DecimalLemmas.{decimal_value-digits, decimal_value-none, other_from_not}
use Rattle.ir_values.proofs.decimal.parse_decimal.Goals as goal

pub returns-in_default : goal.returns-in_default
returns-in_default c =
    let never : (n : ℕ) → n < 2 ^ 64 → c.args.text.now ≡ decimal n → ⊥ = λ n h e. c.in_default.ensures.cases.0 (rw e (IsUtf8-from_ascii (decimal n) (IsAscii-decimal n h))) in
    record { value = decimal_value-none c.args.text.now never; sound = tt; complete = λ n h e. absurd (never n h e) }

pub returns-in_default-parse : goal.returns-in_default-parse
returns-in_default-parse c =
    let never : (n : ℕ) → n < 2 ^ 64 → c.args.text.now ≡ decimal n → ⊥ = λ n h e.
    c.in_default-parse.not-Ok n (parse-decimal 64 n c.in-Ok.digits.now c.parse.result h h (c.in-Ok.ensures.cases.0 ∙ e) c.parse.ensures.value.0) in
    record { value = decimal_value-none c.args.text.now never; sound = tt; complete = λ n h e. absurd (never n h e) }

pub returns-then-ne : goal.returns-then-ne
returns-then-ne c =
    let never : (n : ℕ) → n < 2 ^ 64 → c.args.text.now ≡ decimal n → ⊥ = λ n h e.
    let p : c.parse.result ≡ Ok n = parse-decimal 64 n c.in-Ok.digits.now c.parse.result h h (c.in-Ok.ensures.cases.0 ∙ e) c.parse.ensures.value.0 in
    let k : c.in-Ok-parse.n ≡ n = cc in
    let same : c.as_bytes.result.now ≡ c.args.text.now = c.as_bytes.ensures.value ∙ c.format.ensures.text ∙ rw k (sym e) in
    other_from_not _ _ (sym c.if-ne.true ∙ c.ne.ensures) same in
    record { value = decimal_value-none c.args.text.now never; sound = tt; complete = λ n h e. absurd (never n h e) }

pub returns-clause-value : goal.returns-clause-value
returns-clause-value c = decimal_value-digits c.in-Ok-parse.n c.args.text.now (omega arith) (search rules)

pub returns-clause-complete : goal.returns-clause-complete
returns-clause-complete c = λ n h e.
    let p : c.parse.result ≡ Ok n = parse-decimal 64 n c.in-Ok.digits.now c.parse.result h h (c.in-Ok.ensures.cases.0 ∙ e) c.parse.ensures.value.0 in
    cc
