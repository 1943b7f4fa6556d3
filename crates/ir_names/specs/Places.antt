-- The places of the spots of a text: of a function its name, of a phi, an instruction or a terminator its first token.
use Rattle.std.specs.Prelude.{ℕ, ◌+◌, map, Option, None, Some, List, [], ◌∷◌, ◌++◌}
use Rattle.ir_grammar.specs.declared.tree.BlockSyntax.{BlockSyntax}
use Rattle.ir_grammar.specs.declared.tree.FunctionSyntax.{FunctionSyntax}
use Rattle.ir_grammar.specs.declared.tree.ItemSyntax.{ItemSyntax}
use Rattle.ir_grammar.specs.declared.tree.ItemSyntax.TheVariants.{Function}
use Rattle.ir_grammar.specs.declared.tree.LineSyntax.{LineSyntax}
use Rattle.ir_grammar.specs.declared.tree.PhiSyntax.{PhiSyntax}
use Rattle.ir_module.specs.declared.places.Place.{Place}
use Rattle.ir_module.specs.declared.places.Point.{Point}
use Rattle.ir_module.specs.declared.places.Spot.{Spot}
use Rattle.ir_module.specs.declared.places.Spot.TheVariants as spot
use Rattle.ir_tokens.specs.Positions.{position_of}
use Rattle.ir_tokens.specs.declared.token.Token.{Token}
use Rattle.ir_values.specs.declared.ids.FuncId.{FuncId}

-- where a token begins: its line from 1 by line feeds, and its column from 1 in bytes
abbrev pub place_at : List ℕ → Token → Place
place_at text t = let p = position_of text t.place in record { line = p.line; column = p.column }

abbrev pub phi_token : PhiSyntax → Token
phi_token p = p.result

abbrev pub line_token : LineSyntax → Token
line_token l = l.first

-- the first tokens of a block's phis, instructions and terminator
abbrev pub block_tokens : BlockSyntax → List Token
block_tokens k = map phi_token k.lines.phis ++ (map line_token k.lines.insts ++ k.last ∷ [])

abbrev pub next_block : Point → Point
next_block p = record p { block = record { 0 = p.block.0 + 1 } }

abbrev pub next_function : FuncId → FuncId
next_function f = record { 0 = f.0 + 1 }

abbrev pub first_point : FuncId → Point
first_point f = record { func = f; block = record { 0 = 0 }; index = 0 }

abbrev pub behind_item : FuncId → ItemSyntax → FuncId
behind_item f (Function g) = next_function f
behind_item f other = f

module _ (text : List ℕ) where
  -- tokens from that of a point on, in its block
  abbrev pub points : Point → List Token → List (Spot × Place)
  points p [] = []
  points p (t ∷ ts) = (spot.At p, place_at text t) ∷ points (record p { index = p.index + 1 }) ts

  -- blocks from that of a point on
  abbrev pub block_places : Point → List BlockSyntax → List (Spot × Place)
  block_places p [] = []
  block_places p (k ∷ ks) = points p (block_tokens k) ++ block_places (next_block p) ks

  abbrev pub body_places : FuncId → Option (List BlockSyntax) → List (Spot × Place)
  body_places f None = []
  body_places f (Some ks) = block_places (first_point f) ks

  abbrev pub function_places : FuncId → FunctionSyntax → List (Spot × Place)
  function_places f g = (spot.Func f, place_at text g.name) ∷ body_places f g.blocks

  abbrev pub item_places : FuncId → ItemSyntax → List (Spot × Place)
  item_places f (Function g) = function_places f g
  item_places f other = []

  abbrev pub items_places : FuncId → List ItemSyntax → List (Spot × Place)
  items_places f [] = []
  items_places f (i ∷ is) = item_places f i ++ items_places (behind_item f i) is

  -- all spots with their places, in order; the module stands at the head of the text
  abbrev pub places_of : List ItemSyntax → List (Spot × Place)
  places_of items = (spot.Module, record { line = 1; column = 1 }) ∷ items_places (record { 0 = 0 }) items
