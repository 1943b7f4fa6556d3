-- Whole module texts (LLVM Language Reference, 'High Level Structure').
use Rattle.std.specs.Prelude.{ℕ, Option, List, [], ◌∷◌}
use Rattle.grammar.specs.Grammar.{Grammar, tok, opt, rep, as_tree, dep, second}
use Rattle.ir_tokens.specs.declared.kind.Kind.{Kind}
use Rattle.ir_tokens.specs.declared.kind.Kind.TheVariants as kind
use Rattle.ir_tokens.specs.declared.token.Token.{Token}
use Rattle.ir_grammar.specs.declared.tree.AttrSyntax.{AttrSyntax}
use Rattle.ir_grammar.specs.declared.tree.AttrSyntax.TheVariants as attr_tree
use Rattle.ir_grammar.specs.declared.tree.ItemSyntax.{ItemSyntax}
use Rattle.ir_grammar.specs.declared.tree.ItemSyntax.TheVariants as item_tree
use Rattle.ir_tokens.specs.Tokens.{tokens}
use Rattle.ir_grammar.specs.Forms.{one, one_of, first, ◌▸◌, ◌◂◌, ◌&◌, ◌or◌}
use Rattle.ir_grammar.specs.SideRules.{so_long}
use Rattle.ir_grammar.specs.Words.{local, global, group, nat, words}
use Rattle.ir_grammar.specs.Operands.{array_type}
use Rattle.ir_grammar.specs.Functions.{address_words, declaration, definition}
use Rattle.ir_grammar.specs.Metadata.{list_line, node_line}

-- Headers and type lines, of which the tree keeps nothing.

-- "source_filename" "=" string
unfoldable pub source_name : Grammar tokens Token
source_name = kind.SourceFilename ▸ kind.Equals ▸ one kind.Str

-- "target" ("triple" | "datalayout") "=" string
unfoldable pub target_line : Grammar tokens Token
target_line = kind.Target ▸ as_tree second (one_of (kind.Triple ∷ kind.DataLayout ∷ []) & kind.Equals ▸ one kind.Str)

-- local "=" "type" "opaque"
unfoldable pub type_line : Grammar tokens Token
type_line = local ◂ kind.Equals ◂ kind.TypeWord ◂ kind.Opaque

unfoldable pub header : Grammar tokens ItemSyntax
header = as_tree (λ t. item_tree.Aside) (source_name or target_line or type_line)

-- Constants (LLVM Language Reference, 'Global Variables').

-- a byte string of n bytes
unfoldable pub bytes_of : ℕ → Grammar tokens Token
bytes_of n = tok (kind.ByteStr ∷ []) (so_long n)

-- "[" nat "x" "i8" "]" bytestring
unfoldable pub sized_bytes : Grammar tokens Token
sized_bytes = as_tree second (dep array_type [] bytes_of)

-- ["private" | "internal"] ["unnamed_addr" | "local_unnamed_addr"] "constant"
unfoldable pub constant_words : Grammar tokens Token
constant_words = as_tree (λ (linkage, (address, word)). word)
    (opt (one_of (kind.Private ∷ kind.Internal ∷ [])) & opt (one_of address_words) & one kind.Constant)

-- ["," "align" nat]
unfoldable pub alignment : Grammar tokens (Option ℕ)
alignment = opt (kind.Comma ▸ kind.Align ▸ nat)

-- global "=" ["private" | "internal"] ["unnamed_addr" | "local_unnamed_addr"] "constant" "[" nat "x" "i8" "]" bytestring ["," "align" nat]
unfoldable pub constant_line : Grammar tokens ItemSyntax
constant_line = as_tree (λ (name, (word, (bytes, align))). item_tree.Constant name bytes)
    (global ◂ kind.Equals & constant_words & sized_bytes & alignment)

-- Groups of attributes (LLVM Language Reference, 'Attribute Groups').

-- ["=" string]
unfoldable pub setting : Grammar tokens (Option Token)
setting = opt (kind.Equals ▸ one kind.Str)

-- string ["=" string] | word
unfoldable pub attribute : Grammar tokens AttrSyntax
attribute = as_tree (λ (key, value). attr_tree.Text key value) (one kind.Str & setting) or as_tree (λ t. attr_tree.Word) (one_of words)

-- "attributes" group "=" "{" {string ["=" string] | word} "}"
unfoldable pub attribute_group : Grammar tokens ItemSyntax
attribute_group = as_tree (λ (name, attributes). item_tree.Group name attributes)
    (kind.Attributes ▸ group ◂ kind.Equals & kind.OpenBrace ▸ rep attribute ◂ kind.CloseBrace)

-- Items.

unfoldable pub function : Grammar tokens ItemSyntax
function = as_tree item_tree.Function (declaration or definition)

unfoldable pub metadata : Grammar tokens ItemSyntax
metadata = attribute_group or list_line or node_line

unfoldable pub item : Grammar tokens ItemSyntax
item = header or constant_line or function or metadata

-- module = { item } End
unfoldable pub module_text : Grammar tokens (List ItemSyntax)
module_text = rep item ◂ kind.End
