-- Nodes and flags (LLVM Language Reference, 'Module Flags Metadata'). Nodes have one space of numbers; a line of `!name`
-- defines none.
use Rattle.std.specs.Prelude.{ℕ, Bool, not, ◌&&◌, ◌==◌, if◌then◌else◌, map, codes, Option, None, Some, is_some, List, [], ◌∷◌, ◌++◌}
use Rattle.std.specs.List.{flat_map, filter_map}
use Rattle.std.specs.Option.{option_map, option_and_then}
use Rattle.ir_tokens.specs.declared.token.Token.{Token}
use Rattle.ir_grammar.specs.declared.tree.ElemSyntax.{ElemSyntax}
use Rattle.ir_grammar.specs.declared.tree.ElemSyntax.TheVariants as elem
use Rattle.ir_grammar.specs.declared.tree.ItemSyntax.{ItemSyntax}
use Rattle.ir_grammar.specs.declared.tree.ItemSyntax.TheVariants as syntax
use Rattle.ir_grammar.specs.declared.tree.PartSyntax.{PartSyntax}
use Rattle.ir_grammar.specs.declared.tree.PartSyntax.TheVariants as part
use Rattle.ir_grammar.specs.SideRules.{bits_of_sign}
use Rattle.ir_module.specs.declared.tree.Flag.{Flag}
use Rattle.ir_module.specs.declared.tree.FlagPart.{FlagPart}
use Rattle.ir_module.specs.declared.tree.FlagPart.TheVariants as flag_part
use Rattle.ir_module.specs.declared.tree.FlagValue.{FlagValue}
use Rattle.ir_module.specs.declared.tree.FlagValue.TheVariants as flag_value
use Rattle.ir_values.specs.Calls.{same_text}
use Rattle.ir_names.specs.declared.fault.Fault.{Fault}
use Rattle.ir_names.specs.declared.fault.NameCode.TheVariants.{Duplicate, BadFlag}
use Rattle.ir_names.specs.Faults.{fault, fault_if, unknown}
use Rattle.ir_names.specs.Sense.{Sense, is_before, item_at}

-- the nodes that a line lists as flags
abbrev pub flag_nodes : (Token → List ℕ) → ItemSyntax → List Token
flag_nodes spelling (syntax.List t nodes) = if same_text (spelling t) (codes "!llvm.module.flags") then nodes else []
flag_nodes spelling other = []

-- all nodes that are listed as flags, in order
abbrev pub listed : (Token → List ℕ) → List ItemSyntax → List Token
listed spelling items = flat_map (flag_nodes spelling) items

abbrev pub elems_in : Option ItemSyntax → Option (List ElemSyntax)
elems_in (Some (syntax.Node t elems)) = Some elems
elems_in other = None

-- the elements of the first node that has a token's number
abbrev pub node_of : Sense → Token → Option (List ElemSyntax)
node_of s t = elems_in (item_at s (s.node t))

-- Flags.

abbrev pub part_of : Sense → PartSyntax → FlagPart
part_of s (part.Integer width negative n) = flag_part.Int width (bits_of_sign width negative n)
part_of s (part.Text t) = flag_part.Text (s.string t)

abbrev pub with_part : FlagPart → List FlagPart → List FlagPart
with_part p ps = p ∷ ps

-- the parts of a node that holds integers and strings alone
abbrev pub parts_in : Sense → List ElemSyntax → Option (List FlagPart)
parts_in s [] = Some []
parts_in s (elem.Part p ∷ es) = option_map (with_part (part_of s p)) (parts_in s es)
parts_in s (elem.Node t ∷ es) = None
parts_in s (elem.Null ∷ es) = None
parts_in s (elem.Parts ps ∷ es) = None

-- the value of a flag: an integer, a string, or a node of these, which is named or written in place
abbrev pub value_of : Sense → ElemSyntax → Option FlagValue
value_of s (elem.Part p) = Some (flag_value.One (part_of s p))
value_of s (elem.Node t) = option_map flag_value.List (option_and_then (parts_in s) (node_of s t))
value_of s elem.Null = None
value_of s (elem.Parts ps) = Some (flag_value.List (map (part_of s) ps))

abbrev pub flag_with : ℕ → List ℕ → FlagValue → Flag
flag_with behaviour key value = record { behaviour = behaviour; key = key; value = value }

abbrev pub flag_with_value : Sense → Bool → ℕ → Token → Option FlagValue → Option Flag
flag_with_value s negative n key value = option_map (flag_with (bits_of_sign 32 negative n) (s.string key)) value

-- the flag of a node of this shape: an integer of 32 bits, a string, and a value
abbrev pub flag_of : Sense → List ElemSyntax → Option Flag
flag_of s (elem.Part (part.Integer width negative n) ∷ elem.Part (part.Text key) ∷ v ∷ []) =
    if width == 32 then flag_with_value s negative n key (value_of s v) else None
flag_of s es = None

abbrev pub listed_flag : Sense → Token → Option Flag
listed_flag s t = option_and_then (flag_of s) (node_of s t)

abbrev pub flags_of : Sense → List Flag
flags_of s = filter_map (listed_flag s) (listed s.spelling s.items)

-- Faults.

abbrev pub node_use_faults : Sense → Token → List Fault
node_use_faults s t = unknown t (s.node t)

abbrev pub elem_faults : Sense → ElemSyntax → List Fault
elem_faults s (elem.Part p) = []
elem_faults s (elem.Node t) = node_use_faults s t
elem_faults s elem.Null = []
elem_faults s (elem.Parts ps) = []

-- A node that stands at item k has a new number, and is a flag where it is listed as one. A second node of a number is no flag.
abbrev pub own_faults : Sense → ℕ → Token → List ElemSyntax → List Fault
own_faults s k t es =
    if is_before (s.node t) k then fault Duplicate t else fault_if (is_some (s.listed t) && not (is_some (flag_of s es))) BadFlag t

abbrev pub node_faults : Sense → ℕ → Token → List ElemSyntax → List Fault
node_faults s k t es = own_faults s k t es ++ flat_map (elem_faults s) es
