-- A text that goes on with no token.
use Rattle.std.specs.Prelude.{ℕ, ◌+◌, List, [], ◌∷◌, length}
use Rattle.ir_text.specs.Tokens.{IsToken, IsFault}
use Rattle.ir_text.specs.declared.tok.Tok.{Tok}
use Rattle.ir_text.specs.declared.tok.Span.{Span}
use Rattle.ir_text.specs.declared.tok.LexError.{LexError}

-- the tokens from a place in a text on, up to one that has a fault
abbrev pub BreaksFrom : ℕ → List ℕ → List (Tok × Span) → LexError → Type 0
BreaksFrom at rest [] error = IsFault at rest error
BreaksFrom at rest (found ∷ ts) error =
    (gap spelling more : List ℕ) × IsToken at rest found gap spelling more
    × BreaksFrom (at + length gap + length spelling) more ts error

-- The bytes begin with the spellings of the tokens in order, with blanks and comments between, each token the longest at
-- its place, and the next token has the fault.
abbrev pub Breaks : List ℕ → List (Tok × Span) → LexError → Type 0
Breaks bytes ts error = BreaksFrom 0 bytes ts error
