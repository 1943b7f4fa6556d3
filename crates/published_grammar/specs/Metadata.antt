-- Nodes (LLVM Language Reference, 'Metadata'):
--
--   elem = part | "!nat" | "null" | "!" "{" [part {"," part}] "}"
--   part = ity-any integer | "i1" ("true" | "false") | "!" string
--
-- where ity-any is "i" and a width from 1 to 128.
use Rattle.std.specs.Prelude.{ℕ, List, [], ◌∷◌}
use Rattle.grammar.specs.Grammar.{Grammar, as_tree, dep, second}
use Rattle.ir_tokens.specs.declared.kind.Kind.{Kind}
use Rattle.ir_tokens.specs.declared.kind.Kind.TheVariants as kind
use Rattle.ir_grammar.specs.declared.tree.PartSyntax.{PartSyntax}
use Rattle.ir_grammar.specs.declared.tree.PartSyntax.TheVariants as part_tree
use Rattle.ir_grammar.specs.declared.tree.ElemSyntax.{ElemSyntax}
use Rattle.ir_grammar.specs.declared.tree.ElemSyntax.TheVariants as elem_tree
use Rattle.ir_grammar.specs.declared.tree.ItemSyntax.{ItemSyntax}
use Rattle.ir_grammar.specs.declared.tree.ItemSyntax.TheVariants as item_tree
use Rattle.ir_tokens.specs.Tokens.{tokens}
use Rattle.ir_grammar.specs.Forms.{one, one_of, commas, ◌▸◌, ◌◂◌, ◌&◌, ◌or◌}
use Rattle.ir_grammar.specs.SideRules.{number}
use Rattle.ir_grammar.specs.Words.{node}
use Rattle.ir_grammar.specs.Metadata.{in_width, bit_of, width_kinds}

-- the width that a word of this kind has: that of "i1", or the number of the token
abbrev pub width_by : Kind → ℕ → ℕ
width_by kind.I1 n = 1
width_by k n = n

-- ity-any
unfoldable pub any_width : Grammar tokens ℕ
any_width = as_tree (λ t. width_by t.kind (number t)) (one_of (kind.I1 ∷ width_kinds))

-- part
unfoldable pub part : Grammar tokens PartSyntax
part = as_tree second (dep any_width [] in_width)
    or kind.I1 ▸ as_tree (λ t. bit_of t.kind) (one_of (kind.True ∷ kind.False ∷ []))
    or as_tree part_tree.Text (kind.Bang ▸ one kind.Str)

-- "{" [part {"," part}] "}"
unfoldable pub parts : Grammar tokens (List PartSyntax)
parts = kind.OpenBrace ▸ commas part ◂ kind.CloseBrace

-- elem
unfoldable pub elem : Grammar tokens ElemSyntax
elem = as_tree elem_tree.Part part or as_tree elem_tree.Node node or as_tree (λ t. elem_tree.Null) (one kind.Null)
    or as_tree elem_tree.Parts (kind.Bang ▸ parts)

-- "!" "{" [elem {"," elem}] "}"
unfoldable pub elems : Grammar tokens (List ElemSyntax)
elems = kind.Bang ▸ kind.OpenBrace ▸ commas elem ◂ kind.CloseBrace

-- "!nat" "=" "!" "{" [elem {"," elem}] "}"
unfoldable pub node_line : Grammar tokens ItemSyntax
node_line = as_tree (λ (name, es). item_tree.Node name es) (node ◂ kind.Equals & elems)
