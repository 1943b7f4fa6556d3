-- The first fault of a text.
use Rattle.std.specs.Prelude.{◌≡◌, ℕ, List}
use Rattle.ir_grammar.specs.declared.tree.ItemSyntax.{ItemSyntax}
use Rattle.ir_module.specs.declared.places.Place.{Place}
use Rattle.ir_names.specs.declared.fault.Fault.{Fault}
use Rattle.ir_names.specs.Module.{NameFault}
use Rattle.ir_names.specs.Places.{place_at}
use Rattle.ir_syntax.specs.declared.fault.SyntaxFault.{SyntaxFault}
use Rattle.ir_syntax.specs.Texts.{HasTree, HasFault}
use Rattle.ir_tokens.specs.Positions.{position_of}
use Rattle.ir_reader.specs.declared.parsed.ReadCode.{ReadCode}
use Rattle.ir_reader.specs.Codes.{of_syntax, of_names}

-- the line of a byte, from 1 by line feeds, and its column, from 1 in bytes
abbrev pub place_of_byte : List ℕ → ℕ → Place
place_of_byte text byte = let p = position_of text byte in record { line = p.line; column = p.column }

-- The text is refused for this, at this place.
pub data Misread (text : List ℕ) : ReadCode → Place → Type 0 where
  -- it has no tree, and this is the first fault of its syntax, names left aside
  in_syntax : (fault : SyntaxFault) → HasFault text fault → Misread text (of_syntax fault.code) (place_of_byte text fault.place)
  -- it has a tree, and this is the first fault of its names
  in_names : (items : List ItemSyntax) (fault : Fault) → HasTree text items → NameFault text items fault
      → Misread text (of_names fault.code) (place_at text fault.at)
