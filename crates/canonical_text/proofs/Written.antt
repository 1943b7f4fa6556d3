-- What is spelled as names, numbers and strings is a token of its kind.
use Rattle.std.proofs.Common.{◌≡◌, ℕ, ◌+◌, ◌-◌, ◌^◌, ◌<◌, ◌≤◌, Bool, true, false, cond, suc, List, [], ◌∷◌, ◌++◌, length, Some, None, refl, sym, ap, subst, ◌∙◌, append_assoc, append-nil, arith, pow_mono, pow_pos}
use Rattle.std.specs.Prelude.{not, is_none, nat_le, ◌&&◌, ◌||◌, ◌==◌, nat_lt, decimal, ℤ, pos, negsuc, neg_ℤ, ◌-ℤ◌, ◌<ℤ◌}
use Rattle.std.specs.Char.{is_ascii_digit, digit_value}
use Rattle.std.specs.Fmt.{signed_decimal}
use Rattle.std.specs.List.{list_all}
use Rattle.std.specs.Str.Parse.{AllDigits, digits_value}
use Rattle.std.proofs.lemmas.Fmt.{decimal_is_IsNumeral_wide}
use Rattle.std.proofs.lemmas.Bool.{and_parts, and_from, or_left, or_right, cond_both, lt-ltb, ltb-true, ltb-false, leb-true, false≢true}
use Rattle.std.proofs.lemmas.Int.{ints}
use Rattle.std.proofs.lemmas.Bool.Decides.{nat_tests}
use Rattle.ir_values.specs.Double.{is_nil, is_double}
use Rattle.ir_values.specs.declared.name.Name.{Name}
use Rattle.ir_values.specs.declared.name.Name.TheVariants as name
use Rattle.ir_text.specs.Faults.{from_bad_escape}
use Rattle.ir_text.specs.Forms.{is_run, is_only, begins_name, in_name, in_word, is_name, is_digits, is_string, is_identifier, is_label_end, is_plain_label, is_quoted_label, after_minus}
use Rattle.ir_text.specs.declared.tok.Tok.TheVariants.{Word, Label, Local, Global, Integer, Double, Str, ByteStr, Group, Metadata}
use Rattle.ir_text.specs.declared.tok.LexError.{LexError}
use Rattle.ir_text.specs.declared.tok.LexCode.TheVariants.{NumberTooWide}
use Rattle.ir_module.specs.Printable.{name_fits}
use Rattle.ir_parts.specs.Spaced.{is_written}
use Rattle.ir_printer.specs.Spellings.{escaped, quoted, name_spelling, is_bare_label, label_spelling, signed_spelling}
use Rattle.canonical_text.proofs.Quotes.{behind_escaped, good_escapes}

-- Digits.

digit_from : (c : ℕ) → digit_value c < 10 → is_ascii_digit c ≡ true
digit_from c h = grind (arith, nat_tests)

all_digits : (ds : List ℕ) → AllDigits 10 ds → list_all is_ascii_digit ds ≡ true
all_digits [] h = refl
all_digits (c ∷ cs) h = and_from (is_ascii_digit c) (list_all is_ascii_digit cs) (digit_from c h.0) (all_digits cs h.1)

some_digits : (ds : List ℕ) → 0 < length ds → list_all is_ascii_digit ds ≡ true → is_digits ds ≡ true
some_digits [] n h = absurd (omega arith)
some_digits (c ∷ cs) n h = h

all_from_digits : (s : List ℕ) → is_digits s ≡ true → list_all is_ascii_digit s ≡ true
all_from_digits [] h = refl
all_from_digits (c ∷ cs) h = h

-- as many as a number of 128 bits has
pub decimal_digits : (n : ℕ) → n < 2 ^ 128 → (is_digits (decimal n) ≡ true) × (digits_value 10 (decimal n) ≡ n)
decimal_digits n h =
    let wide : n < 10 ^ 64 = omega arith in
    let w = decimal_is_IsNumeral_wide n wide in
    (some_digits (decimal n) w.0.0 (all_digits (decimal n) w.0.1), w.1)

-- no '-' begins digits
no_minus : (ds : List ℕ) → is_digits ds ≡ true → after_minus ds ≡ ds
no_minus [] h = refl
no_minus (c ∷ cs) h =
    let p = and_parts (is_ascii_digit c) (list_all is_ascii_digit cs) h in
    let e : (c == 45) ≡ false = digit_no_minus c p.0 in
    rw e refl
  where
    digit_no_minus : (c : ℕ) → is_ascii_digit c ≡ true → (c == 45) ≡ false
    digit_no_minus c h = grind (arith, nat_tests)

fitting : (n : ℕ) → n < 2 ^ 128 → is_none {T = LexError} (cond (nat_lt n (2 ^ 128)) None (Some (record { code = NumberTooWide; at = 0 }))) ≡ true
fitting n h = rw (lt-ltb n (2 ^ 128) h) refl

pub natural_written : (n : ℕ) → n < 2 ^ 128 → is_written Integer (decimal n) ≡ true
natural_written n h =
    let w = decimal_digits n h in
    let m = no_minus (decimal n) w.0 in
    rw m (rw w.0 (rw w.1 (fitting n h)))

abbrev pub magnitude_of : ℤ → ℕ
magnitude_of (pos n) = n
magnitude_of (negsuc n) = n + 1

pub integer_written : (z : ℤ) → magnitude_of z < 2 ^ 128 → is_written Integer (signed_decimal z) ≡ true
integer_written (pos n) h = natural_written n h
integer_written (negsuc n) h =
    let k : suc n < 2 ^ 128 = omega arith in
    let w = decimal_digits (suc n) k in
    rw w.0 (rw w.1 (fitting (suc n) k))

-- between the bounds of 128 bits and a sign
pub between_written : (z : ℤ) → neg_ℤ (pos (2 ^ 128)) <ℤ z → z <ℤ pos (2 ^ 128) → is_written Integer (signed_decimal z) ≡ true
between_written (pos n) h k = integer_written (pos n) (omega (arith, ints))
between_written (negsuc n) h k = integer_written (negsuc n) (omega (arith, ints))

abbrev pub signed_value : ℕ → ℕ → ℤ
signed_value width bits = cond (nat_lt bits (2 ^ (width - 1))) (pos bits) (pos bits -ℤ pos (2 ^ width))

-- a signed value of up to 128 bits
pub signed_written : (width bits : ℕ) → 0 < width → width ≤ 128 → bits < 2 ^ width → is_written Integer (signed_decimal (signed_value width bits)) ≡ true
signed_written width bits n m h =
    let wide : 2 ^ width ≤ 2 ^ 128 = pow_mono m in
    let some : 0 < 2 ^ (width - 1) = pow_pos (width - 1) in
    cond_both (nat_lt bits (2 ^ (width - 1))) (pos bits) (pos bits -ℤ pos (2 ^ width)) (λ z. is_written Integer (signed_decimal z) ≡ true)
    (λ e. between_written (pos bits) (omega (arith, ints)) (omega (arith, ints)))
    (λ e. let above : 2 ^ (width - 1) ≤ bits = ltb-false bits (2 ^ (width - 1)) e in
    between_written (pos bits -ℤ pos (2 ^ width)) (omega (arith, ints)) (omega (arith, ints)))

minus_written : (n : ℕ) → n < 2 ^ 128 → is_written Integer (45 ∷ decimal n) ≡ true
minus_written n h =
    let w = decimal_digits n h in
    rw w.0 (rw w.1 (fitting n h))

-- the same, as it is spelled
pub spelling_written : (width bits : ℕ) → width ≤ 128 → bits < 2 ^ width → is_written Integer (signed_spelling width bits) ≡ true
spelling_written width bits m h =
    let wide : 2 ^ width ≤ 2 ^ 128 = pow_mono m in
    let some : 0 < 2 ^ (width - 1) = pow_pos (width - 1) in
    cond_both (nat_le (2 ^ (width - 1)) bits) (45 ∷ decimal (2 ^ width - bits)) (decimal bits) (λ s. is_written Integer s ≡ true)
    (λ e. let above : 2 ^ (width - 1) ≤ bits = leb-true (2 ^ (width - 1)) bits e in minus_written (2 ^ width - bits) (omega arith))
    (λ e. natural_written bits (omega arith))

pub group_written : (n : ℕ) → n < 2 ^ 128 → is_written Group (35 ∷ decimal n) ≡ true
group_written n h = rw (decimal_digits n h).0 refl

pub node_written : (n : ℕ) → n < 2 ^ 128 → is_written Metadata (33 ∷ decimal n) ≡ true
node_written n h = meta (decimal n) (decimal_digits n h).0
  where
    meta : (s : List ℕ) → is_digits s ≡ true → is_written Metadata (33 ∷ s) ≡ true
    meta [] h = absurd (false≢true h)
    meta (c ∷ cs) h = rw h refl

digits_in_word : (s : List ℕ) → list_all is_ascii_digit s ≡ true → list_all in_word s ≡ true
digits_in_word [] h = refl
digits_in_word (c ∷ cs) h =
    let p = and_parts (is_ascii_digit c) (list_all is_ascii_digit cs) h in
    and_from (in_word c) (list_all in_word cs) (digit_in_word c p.0) (digits_in_word cs p.1)
  where
    digit_in_word : (c : ℕ) → is_ascii_digit c ≡ true → in_word c ≡ true
    digit_in_word c h = grind (arith, nat_tests)

-- the type of integers of a width
pub width_written : (n : ℕ) → n < 2 ^ 128 → is_written Word (105 ∷ decimal n) ≡ true
width_written n h = rw (digits_in_word (decimal n) (all_from_digits (decimal n) (decimal_digits n h).0)) refl

pub double_written : (s : List ℕ) → is_double s ≡ true → is_written Double s ≡ true
double_written s h = rw h refl

-- Strings.

closed : (bytes : List ℕ) → is_string (quoted bytes) ≡ true
closed bytes = behind_escaped is_nil bytes (34 ∷ [])

sound : (bytes x : List ℕ) → from_bad_escape 0 x ≡ [] → from_bad_escape 0 (34 ∷ (escaped bytes ++ x)) ≡ []
sound bytes x h = good_escapes bytes x ∙ h

pub string_written : (bytes : List ℕ) → is_written Str (quoted bytes) ≡ true
string_written bytes = rw (closed bytes, sound bytes (34 ∷ []) refl) refl

pub bytes_written : (bytes : List ℕ) → is_written ByteStr (99 ∷ quoted bytes) ≡ true
bytes_written bytes = rw (closed bytes, sound bytes (34 ∷ []) refl) refl

-- Names.

named_no_backslash : (c : ℕ) → in_name c ≡ true → (c == 92) ≡ false
named_no_backslash c h = grind (arith, nat_tests)

plain_sound : (s x : List ℕ) → list_all in_name s ≡ true → from_bad_escape 0 (s ++ x) ≡ from_bad_escape 0 x
plain_sound [] x h = refl
plain_sound (c ∷ cs) x h =
    let p = and_parts (in_name c) (list_all in_name cs) h in
    rw (named_no_backslash c p.0) (plain_sound cs x p.1)

run_named : (first : ℕ → Bool) (s : List ℕ) → ((c : ℕ) → first c ≡ true → in_name c ≡ true) → is_run first in_name s ≡ true → list_all in_name s ≡ true
run_named first [] f h = refl
run_named first (c ∷ cs) f h =
    let p = and_parts (first c) (list_all in_name cs) h in
    and_from (in_name c) (list_all in_name cs) (f c p.0) p.1

begins_named : (c : ℕ) → begins_name c ≡ true → in_name c ≡ true
begins_named c h = grind (arith, nat_tests)

digit_named : (c : ℕ) → is_ascii_digit c ≡ true → in_name c ≡ true
digit_named c h = grind (arith, nat_tests)

digits_named : (s : List ℕ) → list_all is_ascii_digit s ≡ true → list_all in_name s ≡ true
digits_named [] h = refl
digits_named (c ∷ cs) h =
    let p = and_parts (is_ascii_digit c) (list_all is_ascii_digit cs) h in
    and_from (in_name c) (list_all in_name cs) (digit_named c p.0) (digits_named cs p.1)

-- a number of a name has at most 32 bits
small : (n : ℕ) → nat_lt n (2 ^ 32) ≡ true → n < 2 ^ 128
small n h = let below : n < 2 ^ 32 = ltb-true n (2 ^ 32) h in omega arith

-- a name is an identifier without a fault
pub record Identified (s : List ℕ) : Type 0 where
  pub form : is_identifier s ≡ true
  pub sound : from_bad_escape 0 s ≡ []

identified_step : (b : Bool) (bytes : List ℕ) → is_name bytes ≡ b → Identified (cond b bytes (quoted bytes))
identified_step true bytes e = record {
  form = rw e refl;
  sound = rw (← append-nil bytes) (plain_sound bytes [] (run_named begins_name bytes begins_named e));
}
identified_step false bytes e = record {
  form = or_right (is_name (quoted bytes) || is_digits (quoted bytes)) (is_string (quoted bytes)) (closed bytes);
  sound = sound bytes (34 ∷ []) refl;
}

pub identified : (n : Name) → name_fits n ≡ true → Identified (name_spelling n)
identified (name.Text bytes) h = identified_step (is_name bytes) bytes refl
identified (name.Number n) h =
    let w = decimal_digits n (small n h) in
    record {
      form = or_left (is_name (decimal n) || is_digits (decimal n)) (is_string (decimal n)) (or_right (is_name (decimal n)) (is_digits (decimal n)) w.0);
      sound = rw (← append-nil (decimal n)) (plain_sound (decimal n) [] (digits_named (decimal n) (all_from_digits (decimal n) w.0)));
    }

pub local_written : (n : Name) → name_fits n ≡ true → is_written Local (37 ∷ name_spelling n) ≡ true
local_written n h = let w = identified n h in rw (w.form, w.sound) refl

pub global_written : (n : Name) → name_fits n ≡ true → is_written Global (64 ∷ name_spelling n) ≡ true
global_written n h = let w = identified n h in rw (w.form, w.sound) refl

-- Labels.

named_no_colon : (c : ℕ) → in_name c ≡ true → (c == 58) ≡ false
named_no_colon c h = grind (arith, nat_tests)

label_end : (s : List ℕ) → list_all in_name s ≡ true → is_label_end (s ++ 58 ∷ []) ≡ true
label_end [] h = refl
label_end (c ∷ cs) h =
    let p = and_parts (in_name c) (list_all in_name cs) h in
    or_left (in_name c && is_label_end (cs ++ 58 ∷ [])) ((c == 58) && is_nil (cs ++ 58 ∷ [])) (and_from (in_name c) (is_label_end (cs ++ 58 ∷ [])) p.0 (label_end cs p.1))

bare_label : (s : List ℕ) → 0 < length s → list_all in_name s ≡ true → is_plain_label (s ++ 58 ∷ []) ≡ true
bare_label [] n h = absurd (omega arith)
bare_label (c ∷ cs) n h = and_from (in_name c) (is_label_end ((c ∷ cs) ++ 58 ∷ [])) (and_parts (in_name c) (list_all in_name cs) h).0 (label_end (c ∷ cs) h)

label_from : (s : List ℕ) → (is_plain_label s || is_quoted_label s) ≡ true → from_bad_escape 0 s ≡ [] → is_written Label s ≡ true
label_from s h k = rw (h, k) refl

run_some : (s : List ℕ) → is_run in_name in_name s ≡ true → 0 < length s
run_some [] h = absurd (false≢true h)
run_some (c ∷ cs) h = omega arith

label_step : (b : Bool) (bytes : List ℕ) → is_bare_label bytes ≡ b → is_written Label (cond b bytes (quoted bytes) ++ 58 ∷ []) ≡ true
label_step true bytes e =
    let p = and_parts (is_run in_name in_name bytes) (not (is_digits bytes)) e in
    let all = run_named in_name bytes (λ c h. h) p.0 in
    label_from (bytes ++ 58 ∷ []) (or_left (is_plain_label (bytes ++ 58 ∷ [])) (is_quoted_label (bytes ++ 58 ∷ [])) (bare_label bytes (run_some bytes p.0) all)) (plain_sound bytes (58 ∷ []) all)
label_step false bytes e =
    let same : quoted bytes ++ 58 ∷ [] ≡ 34 ∷ (escaped bytes ++ 34 ∷ 58 ∷ []) = ap (λ x. 34 ∷ x) (append_assoc (escaped bytes) (34 ∷ []) (58 ∷ [])) in
    let whole = 34 ∷ (escaped bytes ++ 34 ∷ 58 ∷ []) in
    subst (λ s. is_written Label s ≡ true) (sym same) (label_from whole (or_right (is_plain_label whole) (is_quoted_label whole) (behind_escaped (is_only 58) bytes (34 ∷ 58 ∷ []))) (sound bytes (34 ∷ 58 ∷ []) refl))

pub label_written : (n : Name) → name_fits n ≡ true → is_written Label (label_spelling n) ≡ true
label_written (name.Text bytes) h = label_step (is_bare_label bytes) bytes refl
label_written (name.Number n) h =
    let w = decimal_digits n (small n h) in
    let all = all_from_digits (decimal n) w.0 in
    let named = digits_named (decimal n) all in
    label_from (decimal n ++ 58 ∷ []) (or_left (is_plain_label (decimal n ++ 58 ∷ [])) (is_quoted_label (decimal n ++ 58 ∷ [])) (bare_label (decimal n) (digits_some (decimal n) w.0) named)) (plain_sound (decimal n) (58 ∷ []) named)
  where
    digits_some : (s : List ℕ) → is_digits s ≡ true → 0 < length s
    digits_some [] h = absurd (false≢true h)
    digits_some (c ∷ cs) h = omega arith
