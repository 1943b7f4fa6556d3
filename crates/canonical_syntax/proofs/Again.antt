-- Names, strings and numbers that are printed are read again.
use Rattle.std.specs.Prelude.{not, ◌==◌, nat_lt, min, decimal}
use Rattle.std.specs.Char.{digit_value, is_ascii_digit, is_ascii_hexdigit}
use Rattle.std.specs.Fmt.{digit_glyph}
use Rattle.std.specs.List.{list_all}
use Rattle.std.proofs.Common.{◌≡◌, ℕ, ◌+◌, ◌-◌, ◌*◌, ◌/◌, ◌%◌, ◌^◌, ◌<◌, Bool, true, false, cond, List, [], ◌∷◌, ◌++◌, length, take, refl, sym, ap, ◌∙◌, subst, arith}
use Rattle.std.proofs.Math.Seq.{take-append_seam}
use Rattle.std.proofs.lemmas.Bool.{and_parts, and_left, agree_below_at, eqb-true, ltb-true, lt-ltb, not-true, false≢true}
use Rattle.std.proofs.lemmas.Bool.Decides.{nat_tests}
use Rattle.std.proofs.lemmas.List.{length-append}
use Rattle.ir_values.specs.declared.name.Name.{Name}
use Rattle.ir_values.specs.declared.name.Name.TheVariants as name
use Rattle.ir_text.specs.Forms.{is_run, in_name, begins_name, is_name, is_digits}
use Rattle.ir_module.specs.Printable.{name_fits, are_bytes}
use Rattle.ir_tokens.specs.Decoded.{but_last, between, decoded, name_bytes}
use Rattle.ir_tokens.specs.Numbers.{capped, number_in}
use Rattle.ir_tokens.specs.Spelled.{name_of}
use Rattle.ir_printer.specs.Spellings.{stands, escaped, quoted, name_spelling, is_bare_label, label_spelling}
use Rattle.canonical_text.proofs.Written.{decimal_digits}

-- ---- strings

abbrev glyph : ℕ → ℕ
glyph d = digit_glyph true d

glyph_hex : (d : ℕ) → d < 16 → is_ascii_hexdigit (glyph d) ≡ true
glyph_hex d h = agree_below_at (λ d. is_ascii_hexdigit (glyph d)) (λ d. true) 16 d refl h

glyph_no_backslash : (d : ℕ) → d < 16 → (glyph d == 92) ≡ false
glyph_no_backslash d h = agree_below_at (λ d. glyph d == 92) (λ d. false) 16 d refl h

glyph-value : (d : ℕ) → d < 16 → digit_value (glyph d) ≡ d
glyph-value d h = eqb-true (digit_value (glyph d)) d (agree_below_at (λ d. digit_value (glyph d) == d) (λ d. true) 16 d refl h)

high : (c : ℕ) → c / 16 % 16 < 16
high c = omega arith

low : (c : ℕ) → c % 16 < 16
low c = omega arith

no_backslash : (c : ℕ) → stands c ≡ true → (c == 92) ≡ false
no_backslash c h = grind (arith, nat_tests)

abbrev is_byte : ℕ → Bool
is_byte c = nat_lt c 256

byte_from : (c : ℕ) → is_byte c ≡ true → c / 16 % 16 * 16 + c % 16 ≡ c
byte_from c h = grind (arith, nat_tests)

decode_step : (b : Bool) (c : ℕ) (x : List ℕ) → stands c ≡ b → is_byte c ≡ true → decoded 0 (cond b (c ∷ []) (92 ∷ glyph (c / 16 % 16) ∷ glyph (c % 16) ∷ []) ++ x) ≡ c ∷ decoded 0 x
decode_step true c x e h = rw (no_backslash c e) refl
decode_step false c x e h =
    rw (glyph_no_backslash (c / 16 % 16) (high c), glyph_hex (c / 16 % 16) (high c), glyph_hex (c % 16) (low c), glyph-value (c / 16 % 16) (high c), glyph-value (c % 16) (low c), byte_from c h) refl

decoded-escaped : (bytes : List ℕ) → are_bytes bytes ≡ true → decoded 0 (escaped bytes) ≡ bytes
decoded-escaped [] h = refl
decoded-escaped (c ∷ cs) h =
    let p = and_parts (is_byte c) (list_all is_byte cs) h in
    decode_step (stands c) c (escaped cs) refl p.0 ∙ ap (λ x. c ∷ x) (decoded-escaped cs p.1)

between_is : (a b : ℕ) (xs : List ℕ) → between (a ∷ (xs ++ b ∷ [])) ≡ xs
between_is a b xs =
    let l : length (a ∷ (xs ++ b ∷ [])) - 2 ≡ length xs = omega (arith, length-append xs (b ∷ [])) in
    ap (λ n. take n (xs ++ b ∷ [])) l ∙ take-append_seam xs (b ∷ [])

-- what stands between quotes is read again
pub quoted_again : (bytes : List ℕ) → are_bytes bytes ≡ true → decoded 0 (between (quoted bytes)) ≡ bytes
quoted_again bytes h = ap (decoded 0) (between_is 34 34 (escaped bytes)) ∙ decoded-escaped bytes h

pub but_last_is : (xs : List ℕ) (b : ℕ) → but_last (xs ++ b ∷ []) ≡ xs
but_last_is xs b =
    let l : length (xs ++ b ∷ []) - 1 ≡ length xs = omega (arith, length-append xs (b ∷ [])) in
    ap (λ n. take n (xs ++ b ∷ [])) l ∙ take-append_seam xs (b ∷ [])

-- ---- numbers

pub number_again : (n : ℕ) → n < 2 ^ 128 → number_in (decimal n) ≡ n
number_again n h =
    let w = decimal_digits n h in
    let c : capped n ≡ n = rw (lt-ltb n (2 ^ 128) h) refl in
    rw (w.0, w.1) c

-- ---- names

-- the bytes write the name, and its number, if it is one, has 32 bits at most
pub record Writes (s : List ℕ) (n : Name) : Type 0 where
  pub name : name_of s ≡ n
  pub few : number_in s < 2 ^ 32

text_written : (s bytes : List ℕ) → is_digits s ≡ false → name_bytes s ≡ bytes → Writes s (name.Text bytes)
text_written s bytes d e = record {
  name = rw d (ap (λ b. name.Text b) e);
  few = rw d (omega arith);
}

begun : (c : ℕ) → begins_name c ≡ true → ((c == 34) ≡ false) × (is_ascii_digit c ≡ false)
begun c h = (grind (arith, nat_tests), grind (arith, nat_tests))

named : (c : ℕ) → in_name c ≡ true → (c == 34) ≡ false
named c h = grind (arith, nat_tests)

plain_written : (bytes : List ℕ) → is_name bytes ≡ true → Writes bytes (name.Text bytes)
plain_written [] h = absurd (false≢true h)
plain_written (c ∷ cs) h =
    let b = begun c (and_parts (begins_name c) (list_all in_name cs) h).0 in
    let q : name_bytes (c ∷ cs) ≡ c ∷ cs = rw (b.0) refl in
    text_written (c ∷ cs) (c ∷ cs) (and_left (is_ascii_digit c) (list_all is_ascii_digit cs) b.1) q

quoted_written : (bytes : List ℕ) → are_bytes bytes ≡ true → Writes (quoted bytes) (name.Text bytes)
quoted_written bytes h = text_written (quoted bytes) bytes refl (quoted_again bytes h)

number_written : (n : ℕ) → nat_lt n (2 ^ 32) ≡ true → Writes (decimal n) (name.Number n)
number_written n h =
    let l : n < 2 ^ 32 = ltb-true n (2 ^ 32) h in
    let w = decimal_digits n (omega arith) in
    let k = number_again n (omega arith) in
    let m : min (number_in (decimal n)) (2 ^ 32 - 1) ≡ n = omega arith in
    let i : name_of (decimal n) ≡ name.Number (min (number_in (decimal n)) (2 ^ 32 - 1)) = whole (decimal n) w.0 in
    record { name = i ∙ ap (λ b. name.Number b) m; few = omega arith }
  where
    whole : (s : List ℕ) → is_digits s ≡ true → name_of s ≡ name.Number (min (number_in s) (2 ^ 32 - 1))
    whole s e = ap (λ b. cond b (name.Number (min (number_in s) (2 ^ 32 - 1))) (name.Text (name_bytes s))) e

text_step : (b : Bool) (bytes : List ℕ) → is_name bytes ≡ b → are_bytes bytes ≡ true → Writes (cond b bytes (quoted bytes)) (name.Text bytes)
text_step true bytes e h = plain_written bytes e
text_step false bytes e h = quoted_written bytes h

-- a name behind its '%' or '@'
pub name_again : (n : Name) → name_fits n ≡ true → Writes (name_spelling n) n
name_again (name.Text bytes) h = text_step (is_name bytes) bytes refl h
name_again (name.Number n) h = number_written n h

bare_written : (bytes : List ℕ) → is_bare_label bytes ≡ true → Writes bytes (name.Text bytes)
bare_written [] h = absurd (false≢true h)
bare_written (c ∷ cs) h =
    let p = and_parts (is_run in_name in_name (c ∷ cs)) (not (is_digits (c ∷ cs))) h in
    let r = and_parts (in_name c) (list_all in_name cs) p.0 in
    let q : name_bytes (c ∷ cs) ≡ c ∷ cs = rw (named c r.0) refl in
    text_written (c ∷ cs) (c ∷ cs) (not-true (is_digits (c ∷ cs)) p.1) q

label_step : (b : Bool) (bytes : List ℕ) → is_bare_label bytes ≡ b → are_bytes bytes ≡ true → Writes (but_last (cond b bytes (quoted bytes) ++ 58 ∷ [])) (name.Text bytes)
label_step true bytes e h = subst (λ s. Writes s (name.Text bytes)) (sym (but_last_is bytes 58)) (bare_written bytes e)
label_step false bytes e h = subst (λ s. Writes s (name.Text bytes)) (sym (but_last_is (quoted bytes) 58)) (quoted_written bytes h)

-- a label without its ':'
pub label_again : (n : Name) → name_fits n ≡ true → Writes (but_last (label_spelling n)) n
label_again (name.Text bytes) h = label_step (is_bare_label bytes) bytes refl h
label_again (name.Number n) h = subst (λ s. Writes s (name.Number n)) (sym (but_last_is (decimal n) 58)) (number_written n h)
