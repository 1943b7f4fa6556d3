-- The syntax tree of a text, or its first fault.
use Rattle.std.specs.Prelude.{◌≡◌, ℕ, Option, Some, None, Result, Ok, Err, List, ◌∷◌, ◌++◌, length}
use Rattle.grammar.specs.Language.{Derives, Misread}
use Rattle.grammar.specs.declared.fault.Fault.{Fault}
use Rattle.ir_text.specs.declared.tok.LexError.{LexError}
use Rattle.ir_tokens.specs.declared.rule.Rule.{Rule}
use Rattle.ir_tokens.specs.declared.token.Token.{Token}
use Rattle.ir_tokens.specs.Whole.{IsWhole, IsBroken}
use Rattle.ir_grammar.specs.declared.tree.ItemSyntax.{ItemSyntax}
use Rattle.ir_grammar.specs.Module.{module_text}
use Rattle.ir_syntax.specs.declared.fault.SyntaxFault.{SyntaxFault}
use Rattle.ir_syntax.specs.declared.fault.SyntaxStop.{SyntaxStop}
use Rattle.ir_syntax.specs.declared.fault.SyntaxStop.TheVariants.{Memory, Refused}
use Rattle.ir_syntax.specs.Refusals.{code_of}

-- The tokens of the text are a module text with this tree.
abbrev pub HasTree : List ℕ → List ItemSyntax → Type 0
HasTree text items = (ts : List Token) × IsWhole text ts × Derives module_text ts items

-- These are the tokens of the text, up to its end, or up to where it goes on with no token and this is wrong.
abbrev pub AreTokens : List ℕ → List Token → Option LexError → Type 0
AreTokens text ts None = IsWhole text ts
AreTokens text ts (Some error) = IsBroken text ts error

-- The first fault of these tokens stands at the token t, and is told by its code and that token's first byte. Where the text
-- goes on with no token, a token of kind Bad stands last, at the byte that is wrong.
abbrev pub IsTold : Option LexError → List Token → Token → List Token → SyntaxFault → Type 0
IsTold wrong before t rest told =
    (fault : Fault Rule) × Misread module_text (before ++ t ∷ rest) fault (length before)
    × (told ≡ record { code = code_of wrong fault t.kind; place = t.place })

-- The first fault of the text.
abbrev pub HasFault : List ℕ → SyntaxFault → Type 0
HasFault text told =
    (wrong : Option LexError) × (before : List Token) × (t : Token) × (rest : List Token)
    × AreTokens text (before ++ t ∷ rest) wrong × IsTold wrong before t rest told

-- What is said of the text is right: its tree, or its first fault.
abbrev pub IsAnswer : List ℕ → Result (List ItemSyntax) SyntaxFault → Type 0
IsAnswer text (Ok items) = HasTree text items
IsAnswer text (Err told) = HasFault text told

-- What reading the text gives is right, unless memory ran out.
abbrev pub Reads : List ℕ → Result (List ItemSyntax) SyntaxStop → Type 0
Reads text (Ok items) = HasTree text items
Reads text (Err (Refused told)) = HasFault text told
Reads text (Err Memory) = Unit

-- The text has exactly one tree or exactly one first fault.
abbrev pub HasOneAnswer : List ℕ → Type 0
HasOneAnswer text =
    (r : Result (List ItemSyntax) SyntaxFault) × IsAnswer text r
    × ((q : Result (List ItemSyntax) SyntaxFault) → IsAnswer text q → q ≡ r)
