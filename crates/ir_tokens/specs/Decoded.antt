-- The parts of a token's spelling, and the bytes that strings and quoted names stand for (LLVM Language Reference, 'Identifiers').
use Rattle.std.specs.Prelude.{ℕ, zero, suc, ◌+◌, ◌-◌, ◌*◌, ◌&&◌, ◌==◌, if◌then◌else◌, List, [], ◌∷◌, length, take, drop}
use Rattle.std.specs.Char.{is_ascii_hexdigit, digit_value}
use Rattle.ir_values.specs.Bytes.{quote, backslash}
use Rattle.ir_values.specs.Double.{begins}
use Rattle.ir_text.specs.Faults.{escape_length}

-- the bytes behind the first
abbrev pub behind_first : List ℕ → List ℕ
behind_first s = drop 1 s

-- all bytes but the last
abbrev pub but_last : List ℕ → List ℕ
but_last s = take (length s - 1) s

-- the bytes between the first and the last
abbrev pub between : List ℕ → List ℕ
between s = take (length s - 2) (drop 1 s)

-- the byte that an escape stands for, by what stands behind its '\': '\' again, or two hexadecimal digits
abbrev pub escaped : List ℕ → ℕ
escaped [] = backslash
escaped (c ∷ []) = backslash
escaped (c ∷ d ∷ cs) = if is_ascii_hexdigit c && is_ascii_hexdigit d then digit_value c * 16 + digit_value d else backslash

-- the byte that these begin with, where the first of them is c
abbrev pub decoded_byte : ℕ → List ℕ → ℕ
decoded_byte c cs = if c == backslash then escaped cs else c

-- the bytes that these stand for, an escape being one; the first n belong to an escape that began before them
abbrev pub decoded : ℕ → List ℕ → List ℕ
decoded n [] = []
decoded (suc n) (c ∷ cs) = decoded n cs
decoded zero (c ∷ cs) = decoded_byte c cs ∷ (if c == backslash then decoded (escape_length cs) cs else decoded 0 cs)

-- the bytes of a name, which is written plainly or as a string
abbrev pub name_bytes : List ℕ → List ℕ
name_bytes s = if begins (λ c. c == quote) s then decoded 0 (between s) else s
