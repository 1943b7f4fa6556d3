-- A text as its writer means it: tokens with their spellings, and blanks. Both the bytes and the tokens come from it.
use Rattle.std.specs.Prelude.{ℕ, ◌+◌, List, [], ◌∷◌, length}
use Rattle.std.specs.List.{flat_map}
use Rattle.ir_text.specs.declared.tok.Tok.{Tok}
use Rattle.ir_text.specs.declared.tok.Tok.TheVariants.{End}
use Rattle.ir_text.specs.declared.tok.Span.{Span}
use Rattle.ir_tokens.specs.Classified.{kind_of, number_of}
use Rattle.ir_tokens.specs.Numbers.{halves}
use Rattle.ir_tokens.specs.declared.token.Token.{Token}

-- blanks, or a token of a kind with its spelling
pub data Part : Type 0 where
  gap : List ℕ → Part
  token : Tok → List ℕ → Part

abbrev pub bytes_of : Part → List ℕ
bytes_of (gap s) = s
bytes_of (token kind s) = s

-- the bytes of the text
abbrev pub text_of : List Part → List ℕ
text_of ps = flat_map bytes_of ps

abbrev pub span : ℕ → ℕ → Span
span from to = record { from = from; to = to }

-- the tokens of the text with their slices, counted on from `at`; the end comes last
abbrev pub spans_from : ℕ → List Part → List (Tok × Span)
spans_from at [] = (End, span at at) ∷ []
spans_from at (gap s ∷ ps) = spans_from (at + length s) ps
spans_from at (token kind s ∷ ps) = (kind, span at (at + length s)) ∷ spans_from (at + length s) ps

abbrev pub spans_of : List Part → List (Tok × Span)
spans_of ps = spans_from 0 ps

-- the token of a kind and a spelling, as the grammar takes it
abbrev pub token_at : ℕ → Tok → List ℕ → Token
token_at at kind s = record { kind = kind_of kind s; place = at; number = halves (number_of kind s) }

-- the tokens of the text as the grammar takes them, with their places counted on from `at`; the end comes last
abbrev pub tokens_from : ℕ → List Part → List Token
tokens_from at [] = token_at at End [] ∷ []
tokens_from at (gap s ∷ ps) = tokens_from (at + length s) ps
tokens_from at (token kind s ∷ ps) = token_at at kind s ∷ tokens_from (at + length s) ps

abbrev pub tokens_of : List Part → List Token
tokens_of ps = tokens_from 0 ps

-- the spellings of the tokens; the end has no bytes
abbrev pub spellings_of : List Part → List (List ℕ)
spellings_of [] = [] ∷ []
spellings_of (gap s ∷ ps) = spellings_of ps
spellings_of (token kind s ∷ ps) = s ∷ spellings_of ps
