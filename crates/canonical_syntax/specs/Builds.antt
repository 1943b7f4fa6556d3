-- Tokens that stand for parts of a text, and parts that are sentences of a grammar.
use Rattle.std.specs.Prelude.{◌≡◌, ℕ, List, [], ◌∷◌}
use Rattle.grammar.specs.Grammar.{Grammar}
use Rattle.grammar.specs.Language.{Derives}
use Rattle.ir_text.specs.declared.tok.Tok.{Tok}
use Rattle.ir_tokens.specs.Classified.{kind_of, number_of}
use Rattle.ir_tokens.specs.Numbers.{value_of}
use Rattle.ir_tokens.specs.Tokens.{tokens}
use Rattle.ir_tokens.specs.declared.token.Token.{Token}
use Rattle.ir_parts.specs.Parts.{Part, gap, token}

-- a token of a sort that these bytes spell, wherever it stands
pub record IsSpelled (spelling : Token → List ℕ) (sort : Tok) (bytes : List ℕ) (t : Token) : Type 0 where
  pub kind : t.kind ≡ kind_of sort bytes
  pub number : value_of t.number ≡ number_of sort bytes
  pub spelled : spelling t ≡ bytes

-- The tokens are those of the parts, in order, wherever they stand.
abbrev pub Reads : (Token → List ℕ) → List Part → List Token → Type 0
Reads spelling [] ts = ts ≡ []
Reads spelling (gap s ∷ ps) ts = Reads spelling ps ts
Reads spelling (token sort s ∷ ps) [] = ⊥
Reads spelling (token sort s ∷ ps) (t ∷ ts) = IsSpelled spelling sort s t × Reads spelling ps ts

-- Tokens that are those of the parts are a sentence, with a tree that has the property.
pub record Builds {A : Type 0} (spelling : Token → List ℕ) (g : Grammar tokens A) (ps : List Part) (P : A → Type 0) : Type 0 where
  pub built : (ts : List Token) → Reads spelling ps ts → (x : A) × Derives g ts x × P x
