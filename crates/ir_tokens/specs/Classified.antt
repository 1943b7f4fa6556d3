-- The kind and the number of a token, by its spelling.
use Rattle.std.specs.Prelude.{ℕ, ◌-◌, Bool, true, false, ◌&&◌, ◌||◌, ◌==◌, nat_lt, if◌then◌else◌, List, [], ◌∷◌, length, codes}
use Rattle.std.specs.Char.{is_ascii_digit}
use Rattle.ir_values.specs.Bytes.{digit_zero, minus, equals, comma, star, less, greater}
use Rattle.ir_values.specs.Bytes.{open_bracket, close_bracket, open_square, close_square, open_brace, close_brace}
use Rattle.ir_values.specs.Double.{begins}
use Rattle.ir_text.specs.Forms.{is_behind, is_digits, after_minus}
use Rattle.ir_text.specs.declared.tok.Tok.{Tok}
use Rattle.ir_text.specs.declared.tok.Tok.TheVariants as tok
use Rattle.ir_tokens.specs.Decoded.{behind_first, but_last, between, decoded, name_bytes}
use Rattle.ir_tokens.specs.Numbers.{number_in}
use Rattle.ir_tokens.specs.Words.{same_text, word_kind}
use Rattle.ir_tokens.specs.declared.kind.Kind.{Kind}
use Rattle.ir_tokens.specs.declared.kind.Kind.TheVariants as kind

-- Words.

-- 'i'
abbrev pub small_i : ℕ
small_i = 105

-- 'i' and digits
abbrev pub is_width : List ℕ → Bool
is_width s = is_behind small_i is_digits s

-- a width that integers of the code can't have
abbrev pub other_width : ℕ → Kind
other_width n = if nat_lt 0 n && nat_lt n 129 then kind.OddWidth else kind.LeftOutWord

-- the kind of 'i' and a number without zeros before it
abbrev pub exact_width : ℕ → Kind
exact_width n =
    if n == 1 then kind.I1 else (if n == 8 then kind.I8 else (if n == 16 then kind.I16
    else (if n == 32 then kind.I32 else (if n == 64 then kind.I64 else other_width n))))

-- the kind of 'i' and a number with zeros before it
abbrev pub padded_width : ℕ → Kind
padded_width n = if (n == 1) || (n == 8) || (n == 16) || (n == 32) || (n == 64) then kind.SameWidth else other_width n

-- the kind of 'i' and these digits
abbrev pub width_kind : List ℕ → Kind
width_kind s = if begins (λ c. c == digit_zero) s then padded_width (number_in s) else exact_width (number_in s)

abbrev pub kind_of_word : List ℕ → Kind
kind_of_word s = if is_width s then width_kind (behind_first s) else word_kind s

-- Other tokens.

-- the kind of a local, by the bytes of its name
abbrev pub local_kind : List ℕ → Kind
local_kind name =
    if same_text name (codes "Qubit") then kind.QubitName
    else (if same_text name (codes "Result") then kind.ResultName else kind.Local)

abbrev pub integer_kind : List ℕ → Kind
integer_kind s = if begins (λ c. c == minus) s then kind.Minus else kind.Nat

-- the kind of what stands behind a '!'
abbrev pub metadata_kind : List ℕ → Kind
metadata_kind [] = kind.Bang
metadata_kind (c ∷ cs) = if is_ascii_digit c then kind.Node else kind.MetaName

-- the kind of a sign, by its first byte
abbrev pub sign_kind : List ℕ → Kind
sign_kind [] = kind.Bad
sign_kind (c ∷ cs) =
    if c == equals then kind.Equals else (if c == comma then kind.Comma else (if c == star then kind.Star
    else (if c == open_bracket then kind.Open else (if c == close_bracket then kind.Close
    else (if c == open_square then kind.OpenSquare else (if c == close_square then kind.CloseSquare
    else (if c == open_brace then kind.OpenBrace else (if c == close_brace then kind.CloseBrace
    else (if c == less then kind.Less else (if c == greater then kind.Greater else kind.Dots))))))))))

-- The kind of a token, by its spelling.
abbrev pub kind_of : Tok → List ℕ → Kind
kind_of tok.Word s = kind_of_word s
kind_of tok.Label s = kind.Label
kind_of tok.Local s = local_kind (name_bytes (behind_first s))
kind_of tok.Global s = kind.Global
kind_of tok.Integer s = integer_kind s
kind_of tok.Double s = kind.DoubleLiteral
kind_of tok.Str s = kind.Str
kind_of tok.ByteStr s = kind.ByteStr
kind_of tok.Group s = kind.Group
kind_of tok.Metadata s = metadata_kind (behind_first s)
kind_of tok.Sign s = sign_kind s
kind_of tok.End s = kind.End

-- The number of a token: the magnitude of an integer, the number of a name, group or node that is written in digits, the
-- width of an 'i' with digits, and how many bytes a string stands for; otherwise 0.
abbrev pub number_of : Tok → List ℕ → ℕ
number_of tok.Word s = if is_width s then number_in (behind_first s) else 0
number_of tok.Label s = number_in (but_last s)
number_of tok.Local s = number_in (behind_first s)
number_of tok.Global s = number_in (behind_first s)
number_of tok.Integer s = number_in (after_minus s)
number_of tok.Str s = length (decoded 0 (between s))
number_of tok.ByteStr s = length (decoded 0 (between (behind_first s)))
number_of tok.Group s = number_in (behind_first s)
number_of tok.Metadata s = number_in (behind_first s)
number_of k s = 0
