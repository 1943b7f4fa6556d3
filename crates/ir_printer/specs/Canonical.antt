-- The canonical text of a module. The bytes are those of its parts.
use Rattle.std.specs.Prelude.{ℕ, List, [], ◌∷◌, ◌++◌, flat_map, length, codes}
use Rattle.ir_text.specs.declared.tok.Tok.TheVariants.{Local, ByteStr}
use Rattle.ir_values.specs.Bytes.{small_c}
use Rattle.ir_values.specs.declared.name.Name.{Name}
use Rattle.ir_module.specs.declared.tree.Constant.{Constant}
use Rattle.ir_module.specs.declared.tree.Module.{Module}
use Rattle.ir_parts.specs.Parts.{Part, token, text_of}
use Rattle.ir_printer.specs.Functions.{function_section}
use Rattle.ir_printer.specs.Groups.{groups_of, group_lines}
use Rattle.ir_printer.specs.Metadata.{flags_sections}
use Rattle.ir_printer.specs.Operands.{global_token, array_parts}
use Rattle.ir_printer.specs.Pieces.{blank, line_end, word, equals}
use Rattle.ir_printer.specs.Spellings.{quoted}

-- '%Qubit = type opaque'
abbrev pub type_line : List ℕ → List Part
type_line name = token Local name ∷ (equals ++ word (codes "type") ∷ blank ∷ word (codes "opaque") ∷ line_end ∷ [])

-- '@0 = internal constant '
unfoldable pub constant_begin : Name → List Part
constant_begin name = global_token name ∷ (equals ++ word (codes "internal") ∷ blank ∷ word (codes "constant") ∷ blank ∷ [])

-- '[3 x i8] c"r0\00"'
unfoldable pub constant_value : List ℕ → List Part
constant_value bytes = array_parts (length bytes) ++ blank ∷ token ByteStr (small_c ∷ quoted bytes) ∷ []

-- '@0 = internal constant [3 x i8] c"r0\00"' (LLVM Language Reference, 'Global Variables')
abbrev pub constant_line : Constant → List Part
constant_line c = constant_begin c.name ++ (constant_value c.bytes ++ line_end ∷ [])

abbrev pub constant_lines : List Constant → List Part
constant_lines cs = flat_map constant_line cs

-- an empty line and a section, where it has items
abbrev pub section : {A : Type 0} → (List A → List Part) → List A → List Part
section lines [] = []
section lines (x ∷ xs) = line_end ∷ lines (x ∷ xs)

-- '%Qubit = type opaque' and '%Result = type opaque'
unfoldable pub type_lines : List Part
type_lines = type_line (codes "%Qubit") ++ type_line (codes "%Result")

-- groups, the list of flags, and nodes
abbrev pub tail_parts : Module → List Part
tail_parts m = section (group_lines 0) (groups_of m) ++ section flags_sections m.flags

-- type lines, constants, functions, groups, the list of flags, and nodes, with an empty line between two sections
abbrev pub module_parts : Module → List Part
module_parts m = type_lines ++ (section constant_lines m.globals ++ (flat_map (function_section m) m.funcs ++ tail_parts m))

-- the canonical text
unfoldable pub canonical : Module → List ℕ
canonical m = text_of (module_parts m)
