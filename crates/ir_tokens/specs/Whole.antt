-- The tokens of a whole text.
use Rattle.std.specs.Prelude.{◌≡◌, ℕ, List, [], ◌∷◌, ◌++◌, map}
use Rattle.ir_text.specs.Breaks.{Breaks}
use Rattle.ir_text.specs.Tokens.{Tokens}
use Rattle.ir_text.specs.declared.tok.Tok.{Tok}
use Rattle.ir_text.specs.declared.tok.Span.{Span}
use Rattle.ir_text.specs.declared.tok.LexError.{LexError}
use Rattle.ir_tokens.specs.Texts.{token_of, bad_token}
use Rattle.ir_tokens.specs.declared.token.Token.{Token}

-- These are the tokens of the text, the end last.
abbrev pub IsWhole : List ℕ → List Token → Type 0
IsWhole bytes ts = (found : List (Tok × Span)) × Tokens bytes found × (ts ≡ map (token_of bytes) found)

-- These are the tokens of the text up to its first fault, for which a token of kind Bad stands last.
abbrev pub IsBroken : List ℕ → List Token → LexError → Type 0
IsBroken bytes ts error =
    (found : List (Tok × Span)) × Breaks bytes found error × (ts ≡ map (token_of bytes) found ++ bad_token error ∷ [])
