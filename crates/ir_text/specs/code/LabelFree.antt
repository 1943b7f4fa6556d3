-- Where no label can end: for what goes over a text token by token and reads each byte a few times at most.
use Rattle.std.specs.Prelude.{◌≡◌, ℕ, ◌≤◌, ◌<◌, Bool, false, ◌==◌, if◌then◌else◌, List, drop}
use Rattle.ir_values.specs.Bytes.{colon}
use Rattle.ir_values.specs.Double.{begins, after}
use Rattle.ir_text.specs.Forms.{in_name}

-- a ':' stands behind the bytes of names that come first
abbrev pub ends_label : List ℕ → Bool
ends_label s = begins (λ c. c == colon) (after in_name s)

-- the bytes behind those of names that come first; all of them where these are a label
abbrev pub behind_label_free : List ℕ → List ℕ
behind_label_free s = if ends_label s then s else after in_name s

-- at none of the bytes from number a up to number b a label begins
abbrev pub IsLabelFree : List ℕ → ℕ → ℕ → Type 0
IsLabelFree bytes a b = (q : ℕ) → a ≤ q → q < b → ends_label (drop q bytes) ≡ false
