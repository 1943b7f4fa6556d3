-- What a text spells.
use Rattle.std.specs.Prelude.{◌≡◌, ℕ, List}
use Rattle.ir_grammar.specs.declared.tree.ItemSyntax.{ItemSyntax}
use Rattle.ir_module.specs.declared.places.Place.{Place}
use Rattle.ir_module.specs.declared.places.Spot.{Spot}
use Rattle.ir_module.specs.declared.tree.Module.{Module}
use Rattle.ir_names.specs.Module.{Names}
use Rattle.ir_names.specs.Places.{places_of}
use Rattle.ir_syntax.specs.Texts.{HasTree}

-- The text spells the module: its tokens are a module text with a tree whose names have no fault and whose module it is.
abbrev pub Spells : Module → List ℕ → Type 0
Spells m text = (items : List ItemSyntax) × HasTree text items × Names text items m

-- These are the spots of the text, in order, each with its place: of the module the head of the text, of a function its name,
-- of a phi, an instruction or a terminator its first token.
abbrev pub HasPlaces : List ℕ → List (Spot × Place) → Type 0
HasPlaces text places = (items : List ItemSyntax) × HasTree text items × (places ≡ places_of text items)
