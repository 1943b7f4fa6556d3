-- What stands in the fields of lines.
use Rattle.std.specs.Prelude.{ℕ, nat_lt, ◌==◌, ◌&&◌, not, Bool, true, false, if◌then◌else◌, List, [], ◌∷◌, ◌++◌, codes}
use Rattle.hex.specs.Hex.{encode_upper}
use Rattle.ir_values.specs.Bytes.{blank, backslash}

abbrev pub delete : ℕ
delete = 127

-- the byte stands for itself: it is no control character, and no backslash, with which an escape begins
abbrev pub stands : ℕ → Bool
stands b = not (nat_lt b blank) && not (b == delete) && not (b == backslash)

-- another byte is a backslash and two upper-case hexadecimal digits
abbrev pub escape : ℕ → List ℕ
escape b = if stands b then b ∷ [] else (backslash ∷ encode_upper (b ∷ []))

abbrev pub escaped : List ℕ → List ℕ
escaped [] = []
escaped (b ∷ bs) = escape b ++ escaped bs

-- the bytes before the first zero byte, or all
abbrev pub before_zero : List ℕ → List ℕ
before_zero [] = []
before_zero (b ∷ bs) = if b == 0 then [] else (b ∷ before_zero bs)

abbrev pub digit : Bool → List ℕ
digit true = codes "1"
digit false = codes "0"

abbrev pub word : Bool → List ℕ
word true = codes "true"
word false = codes "false"
