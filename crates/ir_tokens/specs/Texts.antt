-- The tokens of a text with their kinds, places and numbers.
use Rattle.std.specs.Prelude.{ℕ, ◌-◌, Bool, true, false, Option, Some, None, Result, Ok, Err, List, [], ◌∷◌, take, drop}
use Rattle.ir_text.specs.declared.tok.Tok.{Tok}
use Rattle.ir_text.specs.declared.tok.Span.{Span}
use Rattle.ir_text.specs.declared.tok.LexError.{LexError}
use Rattle.ir_tokens.specs.Classified.{kind_of, number_of}
use Rattle.ir_tokens.specs.Numbers.{halves}
use Rattle.ir_tokens.specs.declared.kind.Kind.TheVariants as kind
use Rattle.ir_tokens.specs.declared.token.Token.{Token}

-- the bytes of a slice
abbrev pub slice : List ℕ → Span → List ℕ
slice bytes span = take (span.to - span.from) (drop span.from bytes)

-- what a token of the text is for the grammar
abbrev pub token_of : List ℕ → Tok × Span → Token
token_of bytes found =
    record { kind = kind_of found.0 (slice bytes found.1); place = found.1.from; number = halves (number_of found.0 (slice bytes found.1)) }

-- what stands where no token does
abbrev pub bad_token : LexError → Token
bad_token e = record { kind = kind.Bad; place = e.at; number = halves 0 }

-- The tokens by what stands at the places of a text in order; where a fault comes last, what stands for it.
abbrev pub tokens_of : List ℕ → List (Result (Tok × Span) LexError) → List Token
tokens_of bytes [] = []
tokens_of bytes (Ok found ∷ rs) = token_of bytes found ∷ tokens_of bytes rs
tokens_of bytes (Err e ∷ rs) = bad_token e ∷ tokens_of bytes rs

-- The fault that comes last, if one does.
abbrev pub fault_of : List (Result (Tok × Span) LexError) → Option LexError
fault_of [] = None
fault_of (Ok found ∷ rs) = fault_of rs
fault_of (Err e ∷ rs) = Some e
