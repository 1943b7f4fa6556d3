-- What grammars of the language speak of.
use Rattle.grammar.specs.Grammar.{Alphabet, alphabet}
use Rattle.ir_tokens.specs.code.Kinds.{code}
use Rattle.ir_tokens.specs.declared.rule.Rule.{Rule}
use Rattle.ir_tokens.specs.declared.token.Token.{Token}

-- tokens by their kinds, and the side rules
abbrev pub tokens : Alphabet
tokens = alphabet Rule (λ (t : Token). t.kind) code
