-- How names, strings and numbers are spelled (LLVM Language Reference, 'Identifiers').
use Rattle.std.specs.Prelude.{ℕ, ◌-◌, ◌/◌, ◌%◌, ◌^◌, nat_le, Bool, true, not, ◌&&◌, ◌==◌, if◌then◌else◌}
use Rattle.std.specs.Prelude.{List, [], ◌∷◌, ◌++◌, decimal}
use Rattle.std.specs.Fmt.{digit_glyph}
use Rattle.ir_values.specs.Bytes.{quote, colon, minus, backslash}
use Rattle.ir_values.specs.declared.name.Name.{Name}
use Rattle.ir_values.specs.declared.name.Name.TheVariants as name
use Rattle.ir_text.specs.Forms.{is_run, in_name, is_name, is_digits}

-- a byte that stands for itself in a string: 0x20 to 0x7e, but for '"' and '\'
abbrev pub stands : ℕ → Bool
stands c = nat_le 0x20 c && nat_le c 0x7e && not (c == quote) && not (c == backslash)

-- a byte in a string: itself, or '\' and two upper-case hexadecimal digits
abbrev pub escape : ℕ → List ℕ
escape c = if stands c then c ∷ [] else backslash ∷ digit_glyph true (c / 16 % 16) ∷ digit_glyph true (c % 16) ∷ []

abbrev pub escaped : List ℕ → List ℕ
escaped [] = []
escaped (c ∷ cs) = escape c ++ escaped cs

abbrev pub quoted : List ℕ → List ℕ
quoted bytes = quote ∷ (escaped bytes ++ quote ∷ [])

-- a name behind its '%' or '@': plain where its form allows, which digits alone don't, else between quotes
abbrev pub name_spelling : Name → List ℕ
name_spelling (name.Text bytes) = if is_name bytes then bytes else quoted bytes
name_spelling (name.Number n) = decimal n

-- a text that may be a label as it is: bytes of names that aren't digits alone
abbrev pub is_bare_label : List ℕ → Bool
is_bare_label bytes = is_run in_name in_name bytes && not (is_digits bytes)

-- a label with its ':'
abbrev pub label_spelling : Name → List ℕ
label_spelling (name.Text bytes) = (if is_bare_label bytes then bytes else quoted bytes) ++ colon ∷ []
label_spelling (name.Number n) = decimal n ++ colon ∷ []

-- the value of these bits in two's complement of this width, in decimal digits
abbrev pub signed_spelling : ℕ → ℕ → List ℕ
signed_spelling width bits = if nat_le (2 ^ (width - 1)) bits then minus ∷ decimal (2 ^ width - bits) else decimal bits
