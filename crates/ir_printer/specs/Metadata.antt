-- The flags of a module in canonical text (LLVM Language Reference, 'Module Flags Metadata').
use Rattle.std.specs.Prelude.{ℕ, ◌+◌, ◌==◌, if◌then◌else◌, List, [], ◌∷◌, ◌++◌, length, map, codes, decimal}
use Rattle.ir_text.specs.declared.tok.Tok.TheVariants.{Integer, Str, Metadata}
use Rattle.ir_values.specs.Bytes.{exclamation}
use Rattle.ir_module.specs.declared.tree.Flag.{Flag}
use Rattle.ir_module.specs.declared.tree.FlagPart.{FlagPart}
use Rattle.ir_module.specs.declared.tree.FlagPart.TheVariants as part
use Rattle.ir_module.specs.declared.tree.FlagValue.{FlagValue}
use Rattle.ir_module.specs.declared.tree.FlagValue.TheVariants as flagvalue
use Rattle.ir_parts.specs.Parts.{Part, token}
use Rattle.ir_printer.specs.Operands.{bit_part}
use Rattle.ir_printer.specs.Pieces.{blank, line_end, sign, word, comma, equals, listed}
use Rattle.ir_printer.specs.Spellings.{quoted, signed_spelling}

-- 'i'
abbrev pub small_i : ℕ
small_i = 105

-- '!0'
abbrev pub node_token : ℕ → Part
node_token n = token Metadata (exclamation ∷ decimal n)

-- '!0 = '
abbrev pub node_begin : ℕ → List Part
node_begin n = node_token n ∷ equals

-- '!{'
abbrev pub node_open : List Part
node_open = token Metadata (codes "!") ∷ sign (codes "{") ∷ []

-- '}' and the end of the line
abbrev pub node_close : List Part
node_close = sign (codes "}") ∷ line_end ∷ []

-- '!"text"'
abbrev pub text_parts : List ℕ → List Part
text_parts bytes = token Metadata (codes "!") ∷ token Str (quoted bytes) ∷ []

-- an integer of so many bits
abbrev pub wide_int_part : ℕ → ℕ → Part
wide_int_part width bits = if width == 1 then bit_part bits else token Integer (signed_spelling width bits)

-- 'i32 1'
abbrev pub int_parts : ℕ → ℕ → List Part
int_parts width bits = word (small_i ∷ decimal width) ∷ blank ∷ wide_int_part width bits ∷ []

abbrev pub flag_part_parts : FlagPart → List Part
flag_part_parts (part.Int width bits) = int_parts width bits
flag_part_parts (part.Text bytes) = text_parts bytes

-- ---- the list of the flags

-- '!0, !1' and so on from n, one for each flag
abbrev pub flag_names : ℕ → List Flag → List (List Part)
flag_names n [] = []
flag_names n (x ∷ xs) = (node_token n ∷ []) ∷ flag_names (n + 1) xs

-- '!llvm.module.flags = !{'
unfoldable pub flags_begin : List Part
flags_begin = token Metadata (codes "!llvm.module.flags") ∷ (equals ++ node_open)

-- '!llvm.module.flags = !{!0, !1}'
unfoldable pub flags_line : List Flag → List Part
flags_line flags = flags_begin ++ (listed (flag_names 0 flags) ++ node_close)

-- ---- nodes: those of the flags, and then those of their lists

-- a list is a node of its own, of this number
abbrev pub value_parts : ℕ → FlagValue → List Part
value_parts node (flagvalue.One p) = flag_part_parts p
value_parts node (flagvalue.List ps) = node_token node ∷ []

-- the number of the next list's node
abbrev pub behind_value : ℕ → FlagValue → ℕ
behind_value node (flagvalue.One p) = node
behind_value node (flagvalue.List ps) = node + 1

-- 'i32 1, !"key"'
abbrev pub key_parts : Flag → List Part
key_parts flag = int_parts 32 flag.behaviour ++ (comma ++ text_parts flag.key)

-- '!{i32 1, !"key", i32 1}'
unfoldable pub flag_node : ℕ → Flag → List Part
flag_node node flag = node_open ++ (key_parts flag ++ (comma ++ (value_parts node flag.value ++ node_close)))

-- the nodes of flags that are numbered from n on, with lists in the nodes from number `node` on
abbrev pub flag_lines : ℕ → ℕ → List Flag → List Part
flag_lines n node [] = []
flag_lines n node (x ∷ xs) = node_begin n ++ (flag_node node x ++ flag_lines (n + 1) (behind_value node x.value) xs)

-- '!{!"text", !"text"}'
unfoldable pub list_node : List FlagPart → List Part
list_node ps = node_open ++ (listed (map flag_part_parts ps) ++ node_close)

abbrev pub list_line : ℕ → FlagValue → List Part
list_line node (flagvalue.One p) = []
list_line node (flagvalue.List ps) = node_begin node ++ list_node ps

abbrev pub list_lines : ℕ → List Flag → List Part
list_lines node [] = []
list_lines node (x ∷ xs) = list_line node x.value ++ list_lines (behind_value node x.value) xs

unfoldable pub nodes_lines : List Flag → List Part
nodes_lines flags = flag_lines 0 (length flags) flags ++ list_lines (length flags) flags

-- the list of the flags, an empty line, and the nodes
abbrev pub flags_sections : List Flag → List Part
flags_sections flags = flags_line flags ++ line_end ∷ nodes_lines flags
