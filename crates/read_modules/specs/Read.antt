-- Texts that are read.
use Rattle.std.specs.Prelude.{◌≡◌, ℕ, ◌-◌, ◌^◌, ◌<◌, true, List, [], length}
use Rattle.grammar.specs.Language.{Derives}
use Rattle.ir_grammar.specs.declared.tree.ItemSyntax.{ItemSyntax}
use Rattle.ir_grammar.specs.Module.{module_text}
use Rattle.ir_module.specs.Printable.{are_bytes}
use Rattle.ir_names.specs.Module.{faults_of}
use Rattle.ir_tokens.specs.declared.token.Token.{Token}
use Rattle.ir_tokens.specs.Whole.{IsWhole}

-- The text has fewer than 2^32 - 1 bytes, these are its tokens, they derive these items, and no name is at fault.
pub record IsRead (text : List ℕ) (tokens : List Token) (items : List ItemSyntax) : Type 0 where
  pub bytes : are_bytes text ≡ true
  pub short : length text < 2 ^ 32 - 1
  pub whole : IsWhole text tokens
  pub derived : Derives module_text tokens items
  pub faultless : faults_of text items ≡ []
