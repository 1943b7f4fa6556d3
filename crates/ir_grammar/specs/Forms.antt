-- How productions are written here, as in the Extended Backus-Naur Form of the LLVM Language Reference.
use Rattle.std.specs.Prelude.{List, [], ◌∷◌}
use Rattle.grammar.specs.Grammar.{Grammar, tok, seq, alt, as_tree, any, second, listed}
use Rattle.ir_tokens.specs.declared.kind.Kind.{Kind}
use Rattle.ir_tokens.specs.declared.kind.Kind.TheVariants as kind
use Rattle.ir_tokens.specs.declared.token.Token.{Token}
use Rattle.ir_tokens.specs.Tokens.{tokens}

infixl 40 ◌◂◌
infixr 35 ◌&◌
infixr 35 ◌▸◌
infixr 25 ◌or◌
-- a token of one of these kinds
abbrev pub one_of : List Kind → Grammar tokens Token
one_of kinds = tok kinds any

-- a token of this kind
abbrev pub one : Kind → Grammar tokens Token
one k = one_of (k ∷ [])

-- k ▸ a is a token of kind k and then a, and a ◂ k is a and then a token of kind k: such a token has no part in the tree
abbrev pub ◌▸◌ : {A : Type 0} → Kind → Grammar tokens A → Grammar tokens A
k ▸ a = as_tree second (seq (one k) a)

abbrev pub first : {A B : Type 0} → A × B → A
first p = p.0

abbrev pub ◌◂◌ : {A : Type 0} → Grammar tokens A → Kind → Grammar tokens A
a ◂ k = as_tree first (seq a (one k))

-- the one and then the other
abbrev pub ◌&◌ : {A B : Type 0} → Grammar tokens A → Grammar tokens B → Grammar tokens (A × B)
a & b = seq a b

-- the one or the other
abbrev pub ◌or◌ : {A : Type 0} → Grammar tokens A → Grammar tokens A → Grammar tokens A
a or b = alt a b

-- [ a { "," a } ]
abbrev pub commas : {A : Type 0} → Grammar tokens A → Grammar tokens (List A)
commas a = listed (kind.Comma ∷ []) a
