-- Names and strings of a text of bytes: their bytes are below 256, and there are fewer than the text has.
use Rattle.std.specs.Prelude.{◌==◌, nat_lt, min}
use Rattle.std.specs.Char.{is_ascii_hexdigit, digit_value}
use Rattle.std.proofs.Common.{◌≡◌, ℕ, zero, suc, ◌+◌, ◌-◌, ◌*◌, ◌^◌, ◌<◌, ◌≤◌, Bool, true, not, ◌&&◌, ◌||◌, Result, Ok, Err, List, [], ◌∷◌, length, take, drop, refl, arith, inl, inr}
use Rattle.std.proofs.lemmas.Bool.{ltb-true, lt-ltb, and_parts, cond_both, agree_below_at, or_cases}
use Rattle.std.proofs.lemmas.List.{length-take, length-drop}
use Rattle.ir_values.specs.Bytes.{quote, backslash}
use Rattle.ir_values.specs.declared.name.Name.TheVariants as name
use Rattle.ir_values.specs.Double.{begins}
use Rattle.ir_text.specs.Faults.{escape_length}
use Rattle.ir_text.specs.Forms.{is_digits}
use Rattle.ir_text.specs.code.Next.{next}
use Rattle.ir_text.specs.declared.tok.Tok.{Tok}
use Rattle.ir_text.specs.declared.tok.Span.{Span}
use Rattle.ir_text.specs.declared.tok.LexError.{LexError}
use Rattle.ir_module.specs.Printable.{are_bytes, name_fits}
use Rattle.ir_tokens.specs.Decoded.{between, escaped, decoded, name_bytes}
use Rattle.ir_tokens.specs.Numbers.{number_in}
use Rattle.ir_tokens.specs.Spelled.{slice_found, spelling_at, name_of, name_part, name_at, string_part, string_at}
use Rattle.ir_tokens.specs.declared.kind.Kind.{Kind}
use Rattle.ir_tokens.specs.declared.kind.Kind.TheVariants as kind
use Rattle.ir_tokens.specs.declared.token.Token.{Token}
use Rattle.read_modules.proofs.Each.{Each, list_all-each, each_of}

abbrev Byte : ℕ → Type 0
Byte c = nat_lt c 256 ≡ true

abbrev Bytes : List ℕ → Type 0
Bytes s = Each Byte s

take_bytes : (n : ℕ) (s : List ℕ) → Bytes s → Bytes (take n s)
take_bytes zero s h = tt
take_bytes (suc n) [] h = tt
take_bytes (suc n) (c ∷ s) h = (h.0, take_bytes n s h.1)

drop_bytes : (n : ℕ) (s : List ℕ) → Bytes s → Bytes (drop n s)
drop_bytes zero s h = h
drop_bytes (suc n) [] h = tt
drop_bytes (suc n) (c ∷ s) h = drop_bytes n s h.1

-- Spellings.

found_bytes : (text : List ℕ) (r : Result (Tok × Span) LexError) → Bytes text → Bytes (slice_found text r)
found_bytes text (Ok found) h = take_bytes (found.1.to - found.1.from) _ (drop_bytes found.1.from text h)
found_bytes text (Err e) h = tt

spelling_bytes : (text : List ℕ) (place : ℕ) → Bytes text → Bytes (spelling_at text place)
unfolding spelling_at
spelling_bytes text place h = found_bytes text (next place (drop place text)) h

found_short : (text : List ℕ) (r : Result (Tok × Span) LexError) → length (slice_found text r) ≤ length text
found_short text (Ok found) =
    let a = length-take (found.1.to - found.1.from) (drop found.1.from text) in let b = length-drop found.1.from text in omega arith
found_short text (Err e) = omega arith

spelling_short : (text : List ℕ) (place : ℕ) → length (spelling_at text place) ≤ length text
unfolding spelling_at
spelling_short text place = found_short text (next place (drop place text))

-- What escapes stand for.

hex_test : ℕ → Bool
hex_test c = nat_lt (digit_value c) 16 || not (is_ascii_hexdigit c)

hex_all : (c : ℕ) → c < 256 → hex_test c ≡ true
unfolding hex_test
hex_all c l = agree_below_at hex_test (λ b. true) 256 c refl l

hex_small : (c : ℕ) → Byte c → is_ascii_hexdigit c ≡ true → digit_value c < 16
unfolding hex_test
hex_small c b h = elim (or_cases (nat_lt (digit_value c) 16) (not (is_ascii_hexdigit c)) (hex_all c (ltb-true c 256 b))) as (λ _. digit_value c < 16) [ inl e ↦ ltb-true _ _ e | inr e ↦ absurd (cc) ]

escaped_byte : (cs : List ℕ) → Bytes cs → Byte (escaped cs)
escaped_byte [] h = refl
escaped_byte (c ∷ []) h = refl
escaped_byte (c ∷ d ∷ cs) h = cond_both (is_ascii_hexdigit c && is_ascii_hexdigit d) (digit_value c * 16 + digit_value d) backslash Byte
    (λ e. let p = and_parts (is_ascii_hexdigit c) _ e in let x = hex_small c h.0 p.0 in let y = hex_small d h.1.0 p.1 in lt-ltb _ _ (omega arith))
    (λ e. refl)

decoded_right : (n : ℕ) (s : List ℕ) → Bytes s → Bytes (decoded n s)
decoded_right n [] h = tt
decoded_right (suc n) (c ∷ cs) h = decoded_right n cs h.1
decoded_right zero (c ∷ cs) h = (
  cond_both (c == backslash) (escaped cs) c Byte (λ e. escaped_byte cs h.1) (λ e. h.0),
  cond_both (c == backslash) (decoded (escape_length cs) cs) (decoded 0 cs) Bytes (λ e. decoded_right (escape_length cs) cs h.1) (λ e. decoded_right 0 cs h.1),
)

decoded_short : (n : ℕ) (s : List ℕ) → length (decoded n s) ≤ length s
decoded_short n [] = omega arith
decoded_short (suc n) (c ∷ cs) = omega (arith, decoded_short n cs)
decoded_short zero (c ∷ cs) =
    let l = cond_both (c == backslash) (decoded (escape_length cs) cs) (decoded 0 cs) (λ d. length d ≤ length cs) (λ e. decoded_short (escape_length cs) cs) (λ e. decoded_short 0 cs) in
    omega arith

-- Names.

name_part_bytes : (k : Kind) (s : List ℕ) → Bytes s → Bytes (name_part k s)
name_part_bytes kind.Label s h = take_bytes _ s h
name_part_bytes k s h = drop_bytes 1 s h

name_of_fits : (s : List ℕ) → Bytes s → name_fits (name_of s) ≡ true
name_of_fits s h = cond_both (is_digits s) (name.Number (min (number_in s) (2 ^ 32 - 1))) (name.Text (name_bytes s)) (λ n. name_fits n ≡ true)
    (λ e. lt-ltb _ _ (omega arith))
    (λ e. list_all-each _ _ (cond_both (begins (λ c. c == quote) s) (decoded 0 (between s)) s Bytes (λ d. decoded_right 0 (between s) (take_bytes _ _ (drop_bytes 1 s h))) (λ d. h)))

pub name_at_fits : (text : List ℕ) (t : Token) → are_bytes text ≡ true → name_fits (name_at text t) ≡ true
unfolding name_at
name_at_fits text t h = name_of_fits _ (name_part_bytes t.kind _ (spelling_bytes text t.place (each_of _ text h)))

-- Strings.

string_part_bytes : (k : Kind) (s : List ℕ) → Bytes s → Bytes (string_part k s)
string_part_bytes kind.ByteStr s h = drop_bytes 1 s h
string_part_bytes k s h = h

string_part_short : (k : Kind) (s : List ℕ) → length (string_part k s) ≤ length s
string_part_short kind.ByteStr s = let l = length-drop 1 s in omega arith
string_part_short k s = omega arith

pub string_at_bytes : (text : List ℕ) (t : Token) → are_bytes text ≡ true → are_bytes (string_at text t) ≡ true
unfolding string_at
string_at_bytes text t h =
    let spelling = spelling_at text t.place in
    let part = string_part t.kind spelling in
    let p = string_part_bytes t.kind spelling (spelling_bytes text t.place (each_of (λ c. nat_lt c 256) text h)) in
    list_all-each (λ c. nat_lt c 256) (decoded 0 (between part)) (decoded_right 0 (between part) (take_bytes (length part - 2) (drop 1 part) (drop_bytes 1 part p)))

pub string_at_short : (text : List ℕ) (t : Token) → length (string_at text t) ≤ length text
unfolding string_at
string_at_short text t =
    let part = string_part t.kind (spelling_at text t.place) in
    let a = decoded_short 0 (between part) in
    let b = length-take (length part - 2) (drop 1 part) in
    let c = length-drop 1 part in
    let d = string_part_short t.kind (spelling_at text t.place) in
    let e = spelling_short text t.place in
    omega arith
