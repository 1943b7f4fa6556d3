-- Points in the order of a block.
use Rattle.std.specs.Prelude.{ℕ, ◌+◌, List, [], ◌∷◌}
use Rattle.ir_module.specs.declared.places.Point.{Point}
use Rattle.ir_tokens.specs.declared.token.Token.{Token}

abbrev pub next : Point → Point
next p = record p { index = p.index + 1 }

-- the point behind those of tokens
abbrev pub behind : Point → List Token → Point
behind p [] = p
behind p (t ∷ ts) = behind (next p) ts
