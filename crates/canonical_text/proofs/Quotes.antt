-- Strings: what is escaped has no quote and no bad escape.
use Rattle.std.proofs.Common.{◌≡◌, ℕ, ◌/◌, ◌%◌, ◌<◌, Bool, true, false, cond, List, [], ◌∷◌, ◌++◌, refl, ap, ◌∙◌, append_assoc, arith}
use Rattle.std.specs.Prelude.{◌==◌}
use Rattle.std.specs.Char.{is_ascii_hexdigit}
use Rattle.std.specs.Fmt.{digit_glyph}
use Rattle.std.proofs.lemmas.Bool.{agree_below_at}
use Rattle.std.proofs.lemmas.Bool.Decides.{nat_tests}
use Rattle.ir_text.specs.Faults.{from_bad_escape}
use Rattle.ir_text.specs.Forms.{behind_first}
use Rattle.ir_printer.specs.Spellings.{stands, escape, escaped}

-- a hexadecimal digit is one, and neither a quote nor a backslash
abbrev glyph : ℕ → ℕ
glyph d = digit_glyph true d

glyph_hex : (d : ℕ) → d < 16 → is_ascii_hexdigit (glyph d) ≡ true
glyph_hex d h = agree_below_at (λ d. is_ascii_hexdigit (glyph d)) (λ d. true) 16 d refl h

glyph_no_quote : (d : ℕ) → d < 16 → (glyph d == 34) ≡ false
glyph_no_quote d h = agree_below_at (λ d. glyph d == 34) (λ d. false) 16 d refl h

glyph_no_backslash : (d : ℕ) → d < 16 → (glyph d == 92) ≡ false
glyph_no_backslash d h = agree_below_at (λ d. glyph d == 92) (λ d. false) 16 d refl h

high : (c : ℕ) → c / 16 % 16 < 16
high c = omega arith

low : (c : ℕ) → c % 16 < 16
low c = omega arith

no_quote : (c : ℕ) → stands c ≡ true → (c == 34) ≡ false
no_quote c h = grind (arith, nat_tests)

no_backslash : (c : ℕ) → stands c ≡ true → (c == 92) ≡ false
no_backslash c h = grind (arith, nat_tests)

-- Behind what is escaped the first quote is the next that stands there.
quote_step : (b : Bool) (p : List ℕ → Bool) (c : ℕ) (x : List ℕ) → stands c ≡ b → behind_first 34 p (cond b (c ∷ []) (92 ∷ glyph (c / 16 % 16) ∷ glyph (c % 16) ∷ []) ++ x) ≡ behind_first 34 p x
quote_step true p c x e = rw (no_quote c e) refl
quote_step false p c x e = rw (glyph_no_quote (c / 16 % 16) (high c), glyph_no_quote (c % 16) (low c)) refl

pub behind_escaped : (p : List ℕ → Bool) (bytes x : List ℕ) → behind_first 34 p (escaped bytes ++ x) ≡ behind_first 34 p x
behind_escaped p [] x = refl
behind_escaped p (c ∷ cs) x = ap (behind_first 34 p) (append_assoc (escape c) (escaped cs) x) ∙ (quote_step (stands c) p c (escaped cs ++ x) refl ∙ behind_escaped p cs x)

-- What is escaped has no bad escape.
escape_step : (b : Bool) (c : ℕ) (x : List ℕ) → stands c ≡ b → from_bad_escape 0 (cond b (c ∷ []) (92 ∷ glyph (c / 16 % 16) ∷ glyph (c % 16) ∷ []) ++ x) ≡ from_bad_escape 0 x
escape_step true c x e = rw (no_backslash c e) refl
escape_step false c x e = rw (glyph_no_backslash (c / 16 % 16) (high c), glyph_hex (c / 16 % 16) (high c), glyph_hex (c % 16) (low c)) refl

pub good_escapes : (bytes x : List ℕ) → from_bad_escape 0 (escaped bytes ++ x) ≡ from_bad_escape 0 x
good_escapes [] x = refl
good_escapes (c ∷ cs) x = ap (from_bad_escape 0) (append_assoc (escape c) (escaped cs) x) ∙ (escape_step (stands c) c (escaped cs ++ x) refl ∙ good_escapes cs x)
