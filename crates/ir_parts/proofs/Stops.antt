-- What is spelled and then stops is exactly what the scan finds.
use Rattle.std.proofs.Common.{◌≡◌, ℕ, Bool, true, false, cond, List, [], ◌∷◌, ◌++◌, Option, Some, None, Ok, Err, refl, sym, ap, subst, ◌∙◌, arith, inl, inr}
use Rattle.std.specs.Prelude.{◌==◌, ◌&&◌, ◌||◌, not, is_none}
use Rattle.std.specs.Char.{is_ascii_digit}
use Rattle.std.proofs.lemmas.Bool.{and_parts, or_cases, or_left, or_parts, or_from, not-true, eqb-true, ne_eqb, false≢true, true≢false, cond_both}
use Rattle.std.proofs.lemmas.Bool.Decides.{nat_tests}
use Rattle.ir_values.specs.Double.{begins, after, is_nil, is_double, is_hex_form, is_decimal, is_sixteen_hex, after_digits, after_sign, begins_with_digit, is_fraction}
use Rattle.ir_values.specs.code.Double.{behind_exponent, behind_point, behind_decimal, behind_sixteen, behind_double}
use Rattle.ir_text.specs.Forms.{is_only, is_behind, in_word, in_name, in_string, begins_word, begins_name, is_sign, after_minus}
use Rattle.ir_text.specs.code.Scan.{Shape, of_kind, behind_string, behind_digits, behind_name, behind_identifier, behind_metadata, string_or_label, double_or_integer, number, unlabelled, label_or, plain, bytes_or_plain, shape}
use Rattle.ir_text.specs.declared.tok.Tok.{Tok}
use Rattle.ir_text.specs.declared.tok.Tok.TheVariants.{Word, Label, Local, Global, Integer, Double, Str, ByteStr, Group, Metadata, Sign, End}
use Rattle.ir_text.specs.declared.tok.LexCode.TheVariants.{BadByte}
use Rattle.ir_text.proofs.RunForms.{is_word, is_name, is_digits, is_string, is_plain_label, is_quoted_label, is_identifier, is_metadata, spells}
use Rattle.ir_text.proofs.After.{after-append, after-append_nil, after_at_once, nil_from, only_from, behind_from}
use Rattle.ir_text.proofs.Classes.{other_than, is_plain, starts, is_sign-plain, is_plain-from_starts, begins_word-starts, in_name-from_begins, no_digit-begins_name, in_name-from_word, in_word-from_begins}
use Rattle.ir_text.proofs.Doubles.{sixteen_leaves}
use Rattle.ir_text.proofs.Lacks.{lacks, lacks_word, lacks_integer, lacks_double}
use Rattle.ir_text.proofs.Numbers.{skip, skip_leaves, is_plus_or_minus, after_sign-is, digits, unsigned, fraction, exponent, decimal-is, is_e, integer_leaves}
use Rattle.ir_text.proofs.Runs.{is_run, run_leaves, closes, string_leaves, begins-append}
use Rattle.ir_text.specs.Forms as form
use Rattle.ir_text.specs.Faults.{fault_of}
use Rattle.ir_text.specs.declared.tok.LexError.{LexError}
use Rattle.ir_text.proofs.SameForms.{spells-is}
use Rattle.ir_parts.specs.Spaced.{joins, is_one_sign, is_open_ended, is_written}

-- What stands behind is no byte of a name, and so no byte of a word and no digit.

no_join : (c : ℕ) → joins c ≡ false → (in_name c ≡ false) × ((c == 58) ≡ false)
no_join c h = or_parts (in_name c) (c == 58) h

pub no_name : (u : List ℕ) → begins joins u ≡ false → begins in_name u ≡ false
no_name [] h = refl
no_name (c ∷ cs) h = (no_join c h).0

abbrev is_colon : ℕ → Bool
is_colon c = c == 58

no_colon : (u : List ℕ) → begins joins u ≡ false → begins is_colon u ≡ false
no_colon [] h = refl
no_colon (c ∷ cs) h = (no_join c h).1

digit_named : (c : ℕ) → in_name c ≡ false → is_ascii_digit c ≡ false
digit_named c h = grind (arith, nat_tests)

word_named : (c : ℕ) → in_name c ≡ false → in_word c ≡ false
word_named c h = grind (arith, nat_tests)

no_digit : (u : List ℕ) → begins in_name u ≡ false → begins is_ascii_digit u ≡ false
no_digit [] h = refl
no_digit (c ∷ cs) h = digit_named c h

no_word : (u : List ℕ) → begins in_name u ≡ false → begins in_word u ≡ false
no_word [] h = refl
no_word (c ∷ cs) h = word_named c h

-- bytes that pass, and behind them none that does
run_stops : (first p : ℕ → Bool) (t u : List ℕ) → is_run first p t ≡ true → begins p u ≡ false → (begins first (t ++ u) ≡ true) × (after p (t ++ u) ≡ u)
run_stops first p t u h k =
    let w = run_leaves first p t u h in
    (w.0, after-append_nil p t u w.1 ∙ after_at_once p u k)

-- Strings, and what begins with a sigil.

closed_stops : (s u : List ℕ) → closes s ≡ true → behind_string (s ++ u) ≡ Ok u
closed_stops s u h = rw (string_leaves s u h) refl

digits_stops : (s u : List ℕ) → is_digits s ≡ true → begins in_name u ≡ false → behind_digits (s ++ u) ≡ Ok u
digits_stops s u h k =
    let w = run_stops is_ascii_digit is_ascii_digit s u h (no_digit u k) in
    rw w.0 (ap (λ x. Ok x) w.1)

name_first : (p : ℕ → Bool) (s u : List ℕ) → begins p s ≡ true → p 34 ≡ false → behind_identifier (s ++ u) ≡ behind_name (s ++ u)
name_first p [] u h f = absurd (false≢true h)
name_first p (c ∷ cs) u h f = rw (other_than p c 34 h f) refl

begins_no_digit : (s u : List ℕ) → begins begins_name s ≡ true → begins is_ascii_digit (s ++ u) ≡ false
begins_no_digit [] u h = absurd (false≢true h)
begins_no_digit (c ∷ cs) u h = no_digit-begins_name c h

begins_in_name : (s u : List ℕ) → begins begins_name s ≡ true → begins in_name (s ++ u) ≡ true
begins_in_name [] u h = absurd (false≢true h)
begins_in_name (c ∷ cs) u h = in_name-from_begins c h

name_stops : (s u : List ℕ) → is_name s ≡ true → begins in_name u ≡ false → behind_identifier (s ++ u) ≡ Ok u
name_stops s u h k =
    let p = and_parts (begins begins_name s) (is_nil (after in_name s)) h in
    let w = run_stops begins_name in_name s u h k in
    rw (name_first begins_name s u p.0 refl) (rw (begins_no_digit s u p.0) (rw (begins_in_name s u p.0) (ap (λ x. Ok x) w.1)))

numbered_stops : (s u : List ℕ) → is_digits s ≡ true → begins in_name u ≡ false → behind_identifier (s ++ u) ≡ Ok u
numbered_stops s u h k =
    let p = and_parts (begins is_ascii_digit s) (is_nil (after is_ascii_digit s)) h in
    let w = run_stops is_ascii_digit is_ascii_digit s u h (no_digit u k) in
    rw (name_first is_ascii_digit s u p.0 refl) (rw w.0 (ap (λ x. Ok x) w.1))

quoted_stops : (s u : List ℕ) → is_string s ≡ true → behind_identifier (s ++ u) ≡ Ok u
quoted_stops s u h =
    let w = behind_from 34 closes s h in
    rw w.is (closed_stops w.rest u w.passes)

identifier_stops : (s u : List ℕ) → is_identifier s ≡ true → begins in_name u ≡ false → behind_identifier (s ++ u) ≡ Ok u
identifier_stops s u h k =
    elim (or_cases (is_name s || is_digits s) (is_string s) h) [
      | inl m ↦ elim (or_cases (is_name s) (is_digits s) m) [ inl n ↦ name_stops s u n k | inr n ↦ numbered_stops s u n k ]
      | inr m ↦ quoted_stops s u m
    ]

local_stops : (t u : List ℕ) → spells Local t ≡ true → begins in_name u ≡ false → shape (t ++ u) ≡ Ok (Local, u)
local_stops t u h k =
    let w = behind_from 37 is_identifier t h in
    rw w.is (ap (of_kind Local) (identifier_stops w.rest u w.passes k))

global_stops : (t u : List ℕ) → spells Global t ≡ true → begins in_name u ≡ false → shape (t ++ u) ≡ Ok (Global, u)
global_stops t u h k =
    let w = behind_from 64 is_identifier t h in
    rw w.is (ap (of_kind Global) (identifier_stops w.rest u w.passes k))

group_stops : (t u : List ℕ) → spells Group t ≡ true → begins in_name u ≡ false → shape (t ++ u) ≡ Ok (Group, u)
group_stops t u h k =
    let w = behind_from 35 is_digits t h in
    rw w.is (ap (of_kind Group) (digits_stops w.rest u w.passes k))

bytes_stops : (t u : List ℕ) → spells ByteStr t ≡ true → shape (t ++ u) ≡ Ok (ByteStr, u)
bytes_stops t u h =
    let w = behind_from 99 is_string t h in
    let v = behind_from 34 closes w.rest w.passes in
    let e : t ≡ 99 ∷ 34 ∷ v.rest = w.is ∙ ap (λ x. 99 ∷ x) v.is in
    rw e (ap (of_kind ByteStr) (closed_stops v.rest u v.passes))

nothing_meta : (u : List ℕ) → begins in_name u ≡ false → behind_metadata u ≡ u
nothing_meta u k = rw (no_digit u k) (after_at_once in_name u k)

meta_stops : (s u : List ℕ) → is_metadata s ≡ true → begins in_name u ≡ false → behind_metadata (s ++ u) ≡ u
meta_stops s u h k =
    elim (or_cases (is_nil s || is_digits s) (is_name s) h) [
      | inl m ↦ elim (or_cases (is_nil s) (is_digits s) m) [
        | inl n ↦ rw (nil_from s n) (nothing_meta u k)
        | inr n ↦ (let w = run_stops is_ascii_digit is_ascii_digit s u n (no_digit u k) in rw w.0 w.1)
      ]
      | inr m ↦ (let p = and_parts (begins begins_name s) (is_nil (after in_name s)) m in
          let w = run_stops begins_name in_name s u m k in
          rw (begins_no_digit s u p.0) w.1)
    ]

metadata_stops : (t u : List ℕ) → spells Metadata t ≡ true → begins in_name u ≡ false → shape (t ++ u) ≡ Ok (Metadata, u)
metadata_stops t u h k =
    let w = behind_from 33 is_metadata t h in
    rw w.is (ap (λ x. Ok (Metadata, x)) (meta_stops w.rest u w.passes k))

string_end : (u : List ℕ) → begins is_colon u ≡ false → string_or_label (Ok u) ≡ Ok (Str, u)
string_end [] h = refl
string_end (c ∷ cs) h = rw h refl

str_stops : (t u : List ℕ) → spells Str t ≡ true → begins is_colon u ≡ false → shape (t ++ u) ≡ Ok (Str, u)
str_stops t u h k =
    let w = behind_from 34 closes t h in
    rw w.is (rw (string_leaves w.rest u w.passes) (string_end u k))

quoted_label_stops : (t u : List ℕ) → is_quoted_label t ≡ true → shape (t ++ u) ≡ Ok (Label, u)
quoted_label_stops t u h =
    let w = behind_from 34 (λ cs. is_behind 34 (is_only 58) (after in_string cs)) t h in
    let v = behind_from 34 (is_only 58) (after in_string w.rest) w.passes in
    let e : after in_string w.rest ≡ 34 ∷ 58 ∷ [] = v.is ∙ ap (λ x. 34 ∷ x) (only_from 58 v.rest v.passes) in
    rw w.is (rw (after-append in_string w.rest u 34 (58 ∷ []) e) refl)

-- Signs.

sign_stops : (t u : List ℕ) → is_one_sign t ≡ true → shape (t ++ u) ≡ Ok (Sign, u)
sign_stops [] u h = absurd (false≢true h)
sign_stops (c ∷ cs) u h =
    let p = and_parts (is_sign c) (is_nil cs) h in
    let n : cs ≡ [] = nil_from cs p.1 in
    rw (n, other_than is_sign c 34 p.0 refl, other_than is_sign c 37 p.0 refl, other_than is_sign c 64 p.0 refl, other_than is_sign c 35 p.0 refl, other_than is_sign c 33 p.0 refl, p.0) refl

-- Words, plain labels and numbers.

plain_shape : (c : ℕ) (x : List ℕ) → is_plain c ≡ true → shape (c ∷ x) ≡ bytes_or_plain (c ∷ x)
plain_shape c x h = rw (other_than is_plain c 34 h refl, other_than is_plain c 37 h refl, other_than is_plain c 64 h refl, other_than is_plain c 35 h refl, other_than is_plain c 33 h refl, is_sign-plain c h) refl

either : (c : ℕ) (x : List ℕ) (P : Shape → Type 0) → ((d : ℕ) (ds : List ℕ) → x ≡ d ∷ ds → c ≡ 99 → d ≡ 34 → P (of_kind ByteStr (behind_string ds))) → P (plain (c ∷ x)) → P (bytes_or_plain (c ∷ x))
either c [] P f g = g
either c (d ∷ ds) P f g = cond_both ((c == 99) && (d == 34)) (of_kind ByteStr (behind_string ds)) (plain (c ∷ d ∷ ds)) P
    (λ e. f d ds refl (eqb-true c 99 (and_parts (c == 99) (d == 34) e).0) (eqb-true d 34 (and_parts (c == 99) (d == 34) e).1)) (λ _. g)

label_not_bytes : (d : ℕ) (x ds u : List ℕ) → after in_name x ≡ 58 ∷ u → x ≡ d ∷ ds → d ≡ 34 → ⊥
label_not_bytes d x ds u a e q =
    let k : after in_name (34 ∷ ds) ≡ 58 ∷ u = ap (after in_name) (ap (λ y. y ∷ ds) (sym q) ∙ sym e) ∙ a in
    true≢false (ap (begins (λ y. y == 34)) k)

plain_label_stops : (t u : List ℕ) → is_plain_label t ≡ true → shape (t ++ u) ≡ Ok (Label, u)
plain_label_stops [] u h = absurd (false≢true h)
plain_label_stops (c ∷ cs) u h =
    let p = and_parts (in_name c) (is_only 58 (after in_name (c ∷ cs))) h in
    let a : after in_name ((c ∷ cs) ++ u) ≡ 58 ∷ u = after-append in_name (c ∷ cs) u 58 [] (only_from 58 (after in_name (c ∷ cs)) p.1) in
    let b : after in_name (cs ++ u) ≡ 58 ∷ u = sym (ap (λ x. cond x (after in_name (cs ++ u)) (c ∷ (cs ++ u))) p.0) ∙ a in
    rw (plain_shape c (cs ++ u) (or_left (in_name c) (c == 43) p.0))
    (either c (cs ++ u) (λ x. x ≡ Ok (Label, u)) (λ d ds e f g. absurd (label_not_bytes d (cs ++ u) ds u b e g))
    (rw p.0 (rw b refl)))

label_stops : (t u : List ℕ) → spells Label t ≡ true → shape (t ++ u) ≡ Ok (Label, u)
label_stops t u h = elim (or_cases (is_plain_label t) (is_quoted_label t) h) [ inl k ↦ plain_label_stops t u k | inr k ↦ quoted_label_stops t u k ]

-- No ':' stands behind what has none.
colon_step : (b : Bool) (c : ℕ) (cs a : List ℕ) → (c == 58) ≡ false → begins is_colon a ≡ false → begins is_colon (cond b a (c ∷ cs)) ≡ false
colon_step true c cs a e h = h
colon_step false c cs a e h = e

no_label : (t u : List ℕ) → lacks 58 t ≡ true → begins joins u ≡ false → begins is_colon (after in_name (t ++ u)) ≡ false
no_label [] u l h = rw (after_at_once in_name u (no_name u h)) (no_colon u h)
no_label (c ∷ cs) u l h =
    let p = and_parts (not (c == 58)) (lacks 58 cs) l in
    colon_step (in_name c) c (cs ++ u) (after in_name (cs ++ u)) (not-true (c == 58) p.0) (no_label cs u p.1 h)

label_or-none : (other : Shape) (a : List ℕ) → begins is_colon a ≡ false → label_or other a ≡ other
label_or-none other [] h = refl
label_or-none other (c ∷ cs) h = rw h refl

-- the first byte of a number
starts_step : (b : Bool) (c : ℕ) (cs : List ℕ) → (c == 45) ≡ b → is_digits (cond b cs (c ∷ cs)) ≡ true → starts c ≡ true
starts_step true c cs e h = grind (arith, nat_tests)
starts_step false c cs e h = or_left (is_ascii_digit c) ((c == 43) || (c == 45)) (and_parts (is_ascii_digit c) (is_nil (after is_ascii_digit (c ∷ cs))) h).0

starts-integer : (c : ℕ) (cs : List ℕ) → is_digits (after_minus (c ∷ cs)) ≡ true → starts c ≡ true
starts-integer c cs h = starts_step (c == 45) c cs refl h

sign_step : (b : Bool) (c : ℕ) (cs : List ℕ) → ((c == 43) || (c == 45)) ≡ b → (begins_with_digit (cond b cs (c ∷ cs)) && is_fraction (after_digits (cond b cs (c ∷ cs)))) ≡ true → starts c ≡ true
sign_step true c cs e h = grind (arith, nat_tests)
sign_step false c cs e h = or_left (is_ascii_digit c) ((c == 43) || (c == 45)) (and_parts (is_ascii_digit c) (is_fraction (after_digits (c ∷ cs))) h).0

starts-hex : (c : ℕ) (cs : List ℕ) → is_hex_form (c ∷ cs) ≡ true → starts c ≡ true
starts-hex c [] h = absurd (false≢true h)
starts-hex c (d ∷ cs) h =
    let p = and_parts (c == 48) (d == 120) (and_parts ((c == 48) && (d == 120)) _ h).0 in
    subst (λ x. starts x ≡ true) (sym (eqb-true c 48 p.0)) refl

starts-double : (c : ℕ) (cs : List ℕ) → is_double (c ∷ cs) ≡ true → starts c ≡ true
starts-double c cs h = elim (or_cases (is_hex_form (c ∷ cs)) (is_decimal (c ∷ cs)) h) [ inl k ↦ starts-hex c cs k | inr k ↦ sign_step ((c == 43) || (c == 45)) c cs refl k ]

number_shape : (c : ℕ) (x : List ℕ) → starts c ≡ true → unlabelled (c ∷ x) ≡ number (c ∷ x)
number_shape c x h = rw (other_than starts c 46 h refl, begins_word-starts c h) refl

not_bytes : (c : ℕ) → starts c ≡ true → c ≡ 99 → ⊥
not_bytes c h e = false≢true (ap starts (sym e) ∙ h)

number_stops : (kind : Tok) (c : ℕ) (cs u : List ℕ) → starts c ≡ true → lacks 58 (c ∷ cs) ≡ true → begins joins u ≡ false → number (c ∷ (cs ++ u)) ≡ Ok (kind, u) → shape (c ∷ (cs ++ u)) ≡ Ok (kind, u)
number_stops kind c cs u s l k h =
    rw (plain_shape c (cs ++ u) (is_plain-from_starts c s))
    (either c (cs ++ u) (λ x. x ≡ Ok (kind, u)) (λ d ds e f g. absurd (not_bytes c s f))
    (cond_both (in_name c) (label_or (unlabelled (c ∷ (cs ++ u))) (after in_name (c ∷ (cs ++ u)))) (cond (c == 43) (number (c ∷ (cs ++ u))) (Err BadByte)) (λ x. x ≡ Ok (kind, u))
    (λ e. label_or-none (unlabelled (c ∷ (cs ++ u))) (after in_name (c ∷ (cs ++ u))) (no_label (c ∷ cs) u l k) ∙ (number_shape c (cs ++ u) s ∙ h))
    (λ e. cond_both (c == 43) (number (c ∷ (cs ++ u))) (Err BadByte) (λ x. x ≡ Ok (kind, u)) (λ _. h) (λ f. absurd (false≢true (sym (or_from (in_name c) (c == 43) e f) ∙ is_plain-from_starts c s))))))

-- No double stands where an integer stops.

no_point : (u : List ℕ) → begins in_name u ≡ false → behind_point u ≡ None
no_point [] h = refl
no_point (c ∷ cs) h =
    let e : (c == 46) ≡ false = grind (arith, nat_tests) in
    rw e refl

minus_step : (b : Bool) (c : ℕ) (cs : List ℕ) → is_digits (cond b cs (c ∷ cs)) ≡ true → cond ((c == 43) || b) cs (c ∷ cs) ≡ cond b cs (c ∷ cs)
minus_step true c cs h = rw (or_right_true (c == 43)) refl
  where
    or_right_true : (b : Bool) → (b || true) ≡ true
    or_right_true true = refl
    or_right_true false = refl
minus_step false c cs h =
    let p = and_parts (is_ascii_digit c) (is_nil (after is_ascii_digit (c ∷ cs))) h in
    let e : (c == 43) ≡ false = other_than is_ascii_digit c 43 p.0 refl in
    rw e refl

same_sign : (t : List ℕ) → is_digits (after_minus t) ≡ true → skip is_plus_or_minus t ≡ after_minus t
same_sign [] h = refl
same_sign (c ∷ cs) h = minus_step (c == 45) c cs h

no_decimal : (t u : List ℕ) → is_digits (after_minus t) ≡ true → begins in_name u ≡ false → behind_decimal (t ++ u) ≡ None
no_decimal t u h k =
    let w = after_minus t in
    let d : digits (skip is_plus_or_minus t) ≡ true = ap digits (same_sign t h) ∙ h in
    let s : after_sign (t ++ u) ≡ w ++ u = after_sign-is (t ++ u) ∙ (skip_leaves digits is_plus_or_minus t u refl d ∙ ap (λ x. x ++ u) (same_sign t h)) in
    let v = run_stops is_ascii_digit is_ascii_digit w u h (no_digit u k) in
    rw s (rw v.0 (ap behind_point v.1 ∙ no_point u k))

no_x : (c d : ℕ) (cs : List ℕ) → ((c == 48) && (d == 120)) ≡ true → is_digits (after_minus (c ∷ d ∷ cs)) ≡ true → ⊥
no_x c d cs e h =
    let p = and_parts (c == 48) (d == 120) e in
    let k : is_digits (after_minus (48 ∷ 120 ∷ cs)) ≡ true = ap (λ x. is_digits (after_minus (48 ∷ x ∷ cs))) (sym (eqb-true d 120 p.1)) ∙ (ap (λ x. is_digits (after_minus (x ∷ d ∷ cs))) (sym (eqb-true c 48 p.0)) ∙ h) in
    false≢true k

hex_step : (b : Bool) (c d : ℕ) (cs : List ℕ) → ((c == 48) && (d == 120)) ≡ b → (b ≡ true → ⊥) → behind_decimal (c ∷ d ∷ cs) ≡ None → cond b (behind_sixteen cs) (behind_decimal (c ∷ d ∷ cs)) ≡ None
hex_step true c d cs e n h = absurd (n refl)
hex_step false c d cs e n h = h

not_named_x : (d : ℕ) → in_name d ≡ false → (d == 120) ≡ false
not_named_x d h = ne_eqb d 120 (λ e. false≢true (sym h ∙ ap in_name e))

no_double : (t u : List ℕ) → is_digits (after_minus t) ≡ true → begins in_name u ≡ false → behind_double (t ++ u) ≡ None
no_double [] u h k = absurd (false≢true h)
no_double (c ∷ []) [] h k = no_decimal (c ∷ []) [] h k
no_double (c ∷ []) (d ∷ us) h k = hex_step ((c == 48) && (d == 120)) c d us refl (λ e. false≢true (sym (not_named_x d k) ∙ (and_parts (c == 48) (d == 120) e).1)) (no_decimal (c ∷ []) (d ∷ us) h k)
no_double (c ∷ d ∷ cs) u h k = hex_step ((c == 48) && (d == 120)) c d (cs ++ u) refl (λ e. no_x c d cs e h) (no_decimal (c ∷ d ∷ cs) u h k)

integer_number : (t u : List ℕ) → is_digits (after_minus t) ≡ true → begins in_name u ≡ false → number (t ++ u) ≡ Ok (Integer, u)
integer_number t u h k =
    let a = (integer_leaves t u h).0 in
    rw (no_double t u h k) (rw a (ap (of_kind Integer) (digits_stops (after_minus t) u h k)))

integer_stops : (t u : List ℕ) → spells Integer t ≡ true → begins joins u ≡ false → shape (t ++ u) ≡ Ok (Integer, u)
integer_stops [] u h k = absurd (false≢true h)
integer_stops (c ∷ cs) u h k = number_stops Integer c cs u (starts-integer c cs h) (lacks_integer (c ∷ cs) h) k (integer_number (c ∷ cs) u h (no_name u k))

-- Doubles.

no_exponent : (u : List ℕ) → begins in_name u ≡ false → behind_exponent u ≡ u
no_exponent [] h = refl
no_exponent (c ∷ cs) h =
    let e : is_e c ≡ false = grind (arith, nat_tests) in
    rw e refl

exponent_at : (f u a : List ℕ) → after is_ascii_digit f ≡ a → exponent a ≡ true → begins in_name u ≡ false → behind_exponent (after is_ascii_digit (f ++ u)) ≡ u
exponent_at f u [] e h k =
    let same = after-append_nil is_ascii_digit f u e ∙ after_at_once is_ascii_digit u (no_digit u k) in
    rw same (no_exponent u k)
exponent_at f u (c ∷ cs) e h k =
    let same = after-append is_ascii_digit f u c cs e in
    let p = and_parts (is_e c && begins is_ascii_digit (skip is_plus_or_minus cs)) (is_nil (after is_ascii_digit (skip is_plus_or_minus cs))) h in
    let q = and_parts (is_e c) (begins is_ascii_digit (skip is_plus_or_minus cs)) p.0 in
    let d : digits (skip is_plus_or_minus cs) ≡ true = and_both (begins is_ascii_digit (skip is_plus_or_minus cs)) (is_nil (after is_ascii_digit (skip is_plus_or_minus cs))) q.1 p.1 in
    let s : after_sign (cs ++ u) ≡ skip is_plus_or_minus cs ++ u = after_sign-is (cs ++ u) ∙ skip_leaves digits is_plus_or_minus cs u refl d in
    let w = run_stops is_ascii_digit is_ascii_digit (skip is_plus_or_minus cs) u d (no_digit u k) in
    let t : (is_e c && begins is_ascii_digit (skip is_plus_or_minus cs ++ u)) ≡ true = and_both (is_e c) (begins is_ascii_digit (skip is_plus_or_minus cs ++ u)) q.0 w.0 in
    rw same (rw s (rw t w.1))
  where
    and_both : (x y : Bool) → x ≡ true → y ≡ true → (x && y) ≡ true
    and_both x y e f = rw (e, f) refl

fraction_at : (w u a : List ℕ) → after is_ascii_digit w ≡ a → fraction a ≡ true → begins in_name u ≡ false → behind_point (after is_ascii_digit (w ++ u)) ≡ Some u
fraction_at w u [] e h k = absurd (false≢true h)
fraction_at w u (c ∷ fs) e h k =
    let p = and_parts (c == 46) (exponent (after is_ascii_digit fs)) h in
    let same = after-append is_ascii_digit w u c fs e in
    rw same (rw p.0 (ap (λ x. Some x) (exponent_at fs u (after is_ascii_digit fs) refl p.1 k)))

decimal_stops : (t u : List ℕ) → is_decimal t ≡ true → begins in_name u ≡ false → behind_decimal (t ++ u) ≡ Some u
decimal_stops t u h k =
    let w = skip is_plus_or_minus t in
    let v : unsigned w ≡ true = sym (decimal-is t) ∙ h in
    let p = and_parts (begins is_ascii_digit w) (fraction (after is_ascii_digit w)) v in
    let s : after_sign (t ++ u) ≡ w ++ u = after_sign-is (t ++ u) ∙ skip_leaves unsigned is_plus_or_minus t u refl v in
    let b : begins is_ascii_digit (w ++ u) ≡ true = begins-append is_ascii_digit w u p.0 in
    rw s (rw b (fraction_at w u (after is_ascii_digit w) refl p.1 k))

no_hex : (d : ℕ) (cs : List ℕ) → d ≡ 120 → is_decimal (48 ∷ d ∷ cs) ≡ true → ⊥
no_hex d cs e h =
    let k : is_decimal (48 ∷ 120 ∷ cs) ≡ true = ap (λ x. is_decimal (48 ∷ x ∷ cs)) (sym e) ∙ h in
    false≢true k

decimal_again : (b : Bool) (c d : ℕ) (cs u : List ℕ) → ((c == 48) && (d == 120)) ≡ b → is_decimal (c ∷ d ∷ cs) ≡ true → begins in_name u ≡ false → cond b (behind_sixteen (cs ++ u)) (behind_decimal (c ∷ d ∷ (cs ++ u))) ≡ Some u
decimal_again true c d cs u e h k =
    let p = and_parts (c == 48) (d == 120) e in
    absurd (no_hex d cs (eqb-true d 120 p.1) (ap (λ x. is_decimal (x ∷ d ∷ cs)) (sym (eqb-true c 48 p.0)) ∙ h))
decimal_again false c d cs u e h k = decimal_stops (c ∷ d ∷ cs) u h k

alone_digit : (b : Bool) (c : ℕ) → (b && is_fraction (cond b [] (c ∷ []))) ≡ true → ⊥
alone_digit true c h = false≢true h
alone_digit false c h = false≢true h

alone_sign : (b : Bool) (c : ℕ) → (begins_with_digit (cond b [] (c ∷ [])) && is_fraction (after_digits (cond b [] (c ∷ [])))) ≡ true → ⊥
alone_sign true c h = false≢true h
alone_sign false c h = alone_digit (is_ascii_digit c) c h

alone : (c : ℕ) → is_decimal (c ∷ []) ≡ true → ⊥
alone c h = alone_sign ((c == 43) || (c == 45)) c h

double_number : (t u : List ℕ) → is_double t ≡ true → begins in_name u ≡ false → behind_double (t ++ u) ≡ Some u
double_number [] u h k = absurd (false≢true h)
double_number (c ∷ []) u h k = absurd (alone c h)
double_number (c ∷ d ∷ cs) u h k =
    elim (or_cases (is_hex_form (c ∷ d ∷ cs)) (is_decimal (c ∷ d ∷ cs)) h) [
      | inl m ↦ (let p = and_parts ((c == 48) && (d == 120)) (is_sixteen_hex cs) m in rw p.0 (sixteen_leaves cs u p.1))
      | inr m ↦ decimal_again ((c == 48) && (d == 120)) c d cs u refl m k
    ]

double_stops : (t u : List ℕ) → spells Double t ≡ true → begins joins u ≡ false → shape (t ++ u) ≡ Ok (Double, u)
double_stops [] u h k = absurd (false≢true h)
double_stops (c ∷ cs) u h k = number_stops Double c cs u (starts-double c cs h) (lacks_double (c ∷ cs) h) k (ap (λ o. double_or_integer o ((c ∷ cs) ++ u)) (double_number (c ∷ cs) u h (no_name u k)))

-- Words.

word_shape : (c : ℕ) (x : List ℕ) → begins_word c ≡ true → unlabelled (c ∷ x) ≡ Ok (Word, after in_word (c ∷ x))
word_shape c x h = rw (other_than begins_word c 46 h refl, h) refl

word_plain : (c : ℕ) (cs u : List ℕ) → is_word (c ∷ cs) ≡ true → begins joins u ≡ false → plain (c ∷ (cs ++ u)) ≡ Ok (Word, u)
word_plain c cs u h k =
    let p = and_parts (begins_word c) (is_nil (after in_word (c ∷ cs))) h in
    let w = run_stops begins_word in_word (c ∷ cs) u h (no_word u (no_name u k)) in
    let n : in_name c ≡ true = in_name-from_word c (in_word-from_begins c p.0) in
    let found : unlabelled (c ∷ (cs ++ u)) ≡ Ok (Word, u) = word_shape c (cs ++ u) p.0 ∙ ap (λ x. Ok (Word, x)) w.1 in
    let here : label_or (unlabelled (c ∷ (cs ++ u))) (after in_name (c ∷ (cs ++ u))) ≡ Ok (Word, u) = label_or-none (unlabelled (c ∷ (cs ++ u))) (after in_name (c ∷ (cs ++ u))) (no_label (c ∷ cs) u (lacks_word (c ∷ cs) h) k) ∙ found in
    subst (λ b. cond b (label_or (unlabelled (c ∷ (cs ++ u))) (after in_name (c ∷ (cs ++ u)))) (cond (c == 43) (number (c ∷ (cs ++ u))) (Err BadByte)) ≡ Ok (Word, u)) (sym n) here

word_is_plain : (c : ℕ) (cs : List ℕ) → is_word (c ∷ cs) ≡ true → is_plain c ≡ true
word_is_plain c cs h = or_left (in_name c) (c == 43) (in_name-from_word c (in_word-from_begins c (and_parts (begins_word c) (is_nil (after in_word (c ∷ cs))) h).0))

long_word : (c e d : ℕ) (es ds u : List ℕ) → is_word (c ∷ e ∷ es) ≡ true → (e ∷ es) ++ u ≡ d ∷ ds → d ≡ 34 → ⊥
long_word c e d es ds u h x q =
    let p = and_parts (begins_word c) (is_nil (after in_word (c ∷ e ∷ es))) h in
    let k : e ≡ 34 = cc in
    let n : after in_word (c ∷ e ∷ es) ≡ [] = nil_from (after in_word (c ∷ e ∷ es)) p.1 in
    let m : after in_word (e ∷ es) ≡ [] = sym (ap (λ b. cond b (after in_word (e ∷ es)) (c ∷ e ∷ es)) (in_word-from_begins c p.0)) ∙ n in
    let o : after in_word (34 ∷ es) ≡ [] = ap (λ y. after in_word (y ∷ es)) (sym k) ∙ m in
    false≢true (ap is_nil o)

word_stops : (t u : List ℕ) → spells Word t ≡ true → not (is_only 99 t) ≡ true → begins joins u ≡ false → shape (t ++ u) ≡ Ok (Word, u)
word_stops [] u h n k = absurd (false≢true h)
word_stops (c ∷ []) u h n k =
    rw (plain_shape c u (word_is_plain c [] h))
    (either c u (λ x. x ≡ Ok (Word, u)) (λ d ds e f g. absurd (true≢false (sym (ap (λ y. is_only 99 (y ∷ [])) f) ∙ not-true (is_only 99 (c ∷ [])) n))) (word_plain c [] u h k))
word_stops (c ∷ e ∷ es) u h n k =
    rw (plain_shape c ((e ∷ es) ++ u) (word_is_plain c (e ∷ es) h))
    (either c ((e ∷ es) ++ u) (λ x. x ≡ Ok (Word, u)) (λ d ds x f g. absurd (long_word c e d es ds u h x g)) (word_plain c (e ∷ es) u h k))

-- what is written is spelled so, by the forms of the scan
spelled : (kind : Tok) (t : List ℕ) → (form.spells kind t && is_none (fault_of kind t)) ≡ true → spells kind t ≡ true
spelled kind t h = sym (spells-is kind t) ∙ (and_parts (form.spells kind t) (is_none (fault_of kind t)) h).0

-- What is written so and stops is what the scan finds.
pub written_stops : (kind : Tok) (t u : List ℕ) → is_written kind t ≡ true → (is_open_ended kind ≡ true → begins joins u ≡ false) → shape (t ++ u) ≡ Ok (kind, u)
written_stops Word t u h k =
    let p = and_parts (form.is_word t) (not (is_only 99 t)) h in
    word_stops t u (sym (spells-is Word t) ∙ p.0) p.1 (k refl)
written_stops Sign t u h k = sign_stops t u h
written_stops Label t u h k = label_stops t u (spelled Label t h)
written_stops ByteStr t u h k = bytes_stops t u (spelled ByteStr t h)
written_stops Local t u h k = local_stops t u (spelled Local t h) (no_name u (k refl))
written_stops Global t u h k = global_stops t u (spelled Global t h) (no_name u (k refl))
written_stops Integer t u h k = integer_stops t u (spelled Integer t h) (k refl)
written_stops Double t u h k = double_stops t u (spelled Double t h) (k refl)
written_stops Str t u h k = str_stops t u (spelled Str t h) (no_colon u (k refl))
written_stops Group t u h k = group_stops t u (spelled Group t h) (no_name u (k refl))
written_stops Metadata t u h k = metadata_stops t u (spelled Metadata t h) (no_name u (k refl))
written_stops End t u h k = absurd (false≢true h)

sign_spelled : (t : List ℕ) → is_one_sign t ≡ true → form.spells Sign t ≡ true
sign_spelled [] h = h
sign_spelled (c ∷ cs) h = or_left (is_sign c && is_nil cs) ((c == 46) && is_behind 46 (is_only 46) cs) h

no_fault : (o : Option LexError) → is_none o ≡ true → o ≡ None
no_fault None h = refl
no_fault (Some fault) h = absurd (false≢true h)

-- It is a token of its kind without a fault.
pub written_form : (kind : Tok) (t : List ℕ) → is_written kind t ≡ true → (form.spells kind t ≡ true) × (fault_of kind t ≡ None)
written_form Word t h = ((and_parts (form.is_word t) (not (is_only 99 t)) h).0, refl)
written_form Sign t h = (sign_spelled t h, refl)
written_form kind t h =
    let p = and_parts (form.spells kind t) (is_none (fault_of kind t)) h in
    (p.0, no_fault (fault_of kind t) p.1)
