-- The kind of token that ends a text.
use Rattle.std.specs.Prelude.{Bool, true, false}
use Rattle.ir_text.specs.declared.tok.Tok.{Tok}
use Rattle.ir_text.specs.declared.tok.Tok.TheVariants as tok

abbrev pub is_end : Tok → Bool
is_end tok.End = true
is_end k = false
