-- What a token spells, by its place in the text.
use Rattle.std.specs.Prelude.{ℕ, ◌-◌, ◌^◌, ◌==◌, min, if◌then◌else◌, Result, Ok, Err, List, [], drop}
use Rattle.ir_values.specs.declared.name.Name.{Name}
use Rattle.ir_values.specs.declared.name.Name.TheVariants as name
use Rattle.ir_text.specs.code.Next.{next}
use Rattle.ir_text.specs.Forms.{is_digits}
use Rattle.ir_text.specs.declared.tok.Tok.{Tok}
use Rattle.ir_text.specs.declared.tok.Span.{Span}
use Rattle.ir_text.specs.declared.tok.LexError.{LexError}
use Rattle.ir_tokens.specs.Decoded.{behind_first, but_last, between, decoded, name_bytes}
use Rattle.ir_tokens.specs.Numbers.{number_in}
use Rattle.ir_tokens.specs.Texts.{slice}
use Rattle.ir_tokens.specs.declared.kind.Kind.{Kind}
use Rattle.ir_tokens.specs.declared.kind.Kind.TheVariants as kind
use Rattle.ir_tokens.specs.declared.token.Token.{Token}

abbrev pub slice_found : List ℕ → Result (Tok × Span) LexError → List ℕ
slice_found bytes (Ok found) = slice bytes found.1
slice_found bytes (Err e) = []

-- the bytes that spell the next token from a place on, and none where a fault or the end comes
unfoldable pub spelling_at : List ℕ → ℕ → List ℕ
spelling_at bytes place = slice_found bytes (next place (drop place bytes))

-- the name that these bytes write: a number where they are digits, else the text that they stand for
abbrev pub name_of : List ℕ → Name
name_of s = if is_digits s then name.Number (min (number_in s) (2 ^ 32 - 1)) else name.Text (name_bytes s)

-- the name in the spelling of a token: what stands before the ':' of a label, else behind the first byte
abbrev pub name_part : Kind → List ℕ → List ℕ
name_part kind.Label s = but_last s
name_part k s = behind_first s

-- the name that a label, a local, a global, a group or a node spells
unfoldable pub name_at : List ℕ → Token → Name
name_at bytes t = name_of (name_part t.kind (spelling_at bytes t.place))

-- the string in the spelling of a token
abbrev pub string_part : Kind → List ℕ → List ℕ
string_part kind.ByteStr s = behind_first s
string_part k s = s

-- the bytes that a string or byte string stands for
unfoldable pub string_at : List ℕ → Token → List ℕ
string_at bytes t = decoded 0 (between (string_part t.kind (spelling_at bytes t.place)))
