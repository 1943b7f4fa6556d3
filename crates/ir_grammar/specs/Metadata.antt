-- Nodes and lists of nodes (LLVM Language Reference, 'Metadata').
use Rattle.std.specs.Prelude.{ℕ, false, List, [], ◌∷◌}
use Rattle.grammar.specs.Grammar.{Grammar, tok, as_tree, dep, second}
use Rattle.ir_tokens.specs.declared.kind.Kind.{Kind}
use Rattle.ir_tokens.specs.declared.kind.Kind.TheVariants as kind
use Rattle.ir_tokens.specs.declared.token.Token.{Token}
use Rattle.ir_grammar.specs.declared.tree.PartSyntax.{PartSyntax}
use Rattle.ir_grammar.specs.declared.tree.PartSyntax.TheVariants as part_tree
use Rattle.ir_grammar.specs.declared.tree.ElemSyntax.{ElemSyntax}
use Rattle.ir_grammar.specs.declared.tree.ElemSyntax.TheVariants as elem_tree
use Rattle.ir_grammar.specs.declared.tree.ItemSyntax.{ItemSyntax}
use Rattle.ir_grammar.specs.declared.tree.ItemSyntax.TheVariants as item_tree
use Rattle.ir_tokens.specs.Tokens.{tokens}
use Rattle.ir_grammar.specs.Forms.{one, one_of, commas, ◌▸◌, ◌◂◌, ◌&◌, ◌or◌}
use Rattle.ir_grammar.specs.SideRules.{number, is_negative, in_range}
use Rattle.ir_grammar.specs.Words.{node, integer_kinds}

-- an integer of a width from 1 to 128
unfoldable pub in_width : ℕ → Grammar tokens PartSyntax
in_width w = as_tree (λ t. part_tree.Integer w (is_negative t.kind) (number t)) (tok integer_kinds (in_range w))

abbrev pub bit_of : Kind → PartSyntax
bit_of kind.True = part_tree.Integer 1 false 1
bit_of k = part_tree.Integer 1 false 0

-- "i1" (integer | "true" | "false")
unfoldable pub bit_part : Grammar tokens PartSyntax
bit_part = kind.I1 ▸ (in_width 1 or as_tree (λ t. bit_of t.kind) (one_of (kind.True ∷ kind.False ∷ [])))

abbrev pub width_kinds : List Kind
width_kinds = kind.I8 ∷ kind.I16 ∷ kind.I32 ∷ kind.I64 ∷ kind.SameWidth ∷ kind.OddWidth ∷ []

-- ity-any integer, where the width isn't written "i1"
unfoldable pub width_part : Grammar tokens PartSyntax
width_part = as_tree second (dep (as_tree number (one_of width_kinds)) [] in_width)

unfoldable pub integer_part : Grammar tokens PartSyntax
integer_part = bit_part or width_part

-- part = ity-any integer | "i1" ("true" | "false") | "!" string
unfoldable pub part : Grammar tokens PartSyntax
part = integer_part or as_tree part_tree.Text (kind.Bang ▸ one kind.Str)

-- "{" [part {"," part}] "}"
unfoldable pub parts : Grammar tokens (List PartSyntax)
parts = kind.OpenBrace ▸ commas part ◂ kind.CloseBrace

-- "!" string | "!" "{" [part {"," part}] "}"
unfoldable pub bang_elem : Grammar tokens ElemSyntax
bang_elem = kind.Bang ▸ (as_tree (λ t. elem_tree.Part (part_tree.Text t)) (one kind.Str) or as_tree elem_tree.Parts parts)

-- elem = part | "!nat" | "null" | "!" "{" [part {"," part}] "}"
unfoldable pub elem : Grammar tokens ElemSyntax
elem = as_tree elem_tree.Part integer_part or as_tree elem_tree.Node node or as_tree (λ t. elem_tree.Null) (one kind.Null) or bang_elem

-- "!" "{" ["!nat" {"," "!nat"}] "}"
unfoldable pub nodes : Grammar tokens (List Token)
nodes = kind.Bang ▸ kind.OpenBrace ▸ commas node ◂ kind.CloseBrace

-- "!" "{" [elem {"," elem}] "}"
unfoldable pub elems : Grammar tokens (List ElemSyntax)
elems = kind.Bang ▸ kind.OpenBrace ▸ commas elem ◂ kind.CloseBrace

-- "!name" "=" "!" "{" ["!nat" {"," "!nat"}] "}"
unfoldable pub list_line : Grammar tokens ItemSyntax
list_line = as_tree (λ (name, ns). item_tree.List name ns) (one kind.MetaName ◂ kind.Equals & nodes)

-- "!nat" "=" "!" "{" [elem {"," elem}] "}"
unfoldable pub node_line : Grammar tokens ItemSyntax
node_line = as_tree (λ (name, es). item_tree.Node name es) (node ◂ kind.Equals & elems)
