-- One token of look-ahead decides in the items of a module, and in whole modules.
use Rattle.std.proofs.Common.{◌≡◌, false, true, List, [], ◌∷◌, ◌++◌, refl, rules}
use Rattle.grammar.specs.Grammar.{listed, preceded, ignored}
use Rattle.grammar.specs.LookAhead.{LL1, Starts, firsts, extensions, marks, apart}
use Rattle.ir_tokens.specs.declared.kind.Kind.{Kind}
use Rattle.ir_tokens.specs.declared.kind.Kind.TheVariants as kind
use Rattle.ir_tokens.specs.Tokens.{tokens}
use Rattle.ir_grammar.specs.Words.{local, global, label, group, node, nat, words}
use Rattle.ir_grammar.specs.Types.{value_type_at, return_type, base_type, plain_type, byte_type, qubit_type, result_type, void_type}
use Rattle.ir_grammar.specs.Operands.{array_type}
use Rattle.ir_grammar.specs.Instructions.{worded_type, groups, condition, call_word, call}
use Rattle.ir_grammar.specs.Blocks.{first_block, block, body, lines, line, terminator, ret, branch, switch, two_targets, target, case, blocks}
use Rattle.ir_grammar.specs.Functions.{head, tail, declared_param, param, params_of, declaration, definition}
use Rattle.ir_grammar.specs.Metadata.{in_width, bit_part, width_part, integer_part, part, parts, bang_elem, elem, nodes, elems, list_line, node_line}
use Rattle.ir_grammar.specs.Module.{source_name, target_line, type_line, header, bytes_of, sized_bytes, constant_words, alignment, constant_line, setting, attribute, attribute_group, function, metadata, item, module_text}
use Rattle.ir_grammar.specs.code.DecidedTypes.{type_firsts, return_starts}
use Rattle.ir_grammar.specs.code.DecidedInstructions.{worded_starts, group_starts, groups_decided}
use Rattle.ir_grammar.specs.code.DecidedBlocks.{blocks_decided}

-- headers and constants

abbrev pub header_firsts : List Kind
header_firsts = kind.SourceFilename ∷ kind.Target ∷ kind.Local ∷ kind.QubitName ∷ kind.ResultName ∷ []

pub header_starts : Starts header header_firsts false
unfolding header source_name target_line type_line local
header_starts = record { decided = search rules; some = refl; begins = refl; marked = refl }

array_decided : LL1 array_type
unfolding array_type nat
array_decided = search rules

sized_decided : LL1 sized_bytes
unfolding sized_bytes array_type nat bytes_of
sized_decided = (array_decided, refl, λ n. (tt, refl, λ h. refl, refl))

constant_decided : LL1 constant_line
unfolding constant_line constant_words sized_bytes array_type nat alignment global
constant_decided = ((tt, tt, refl), (((tt, refl), ((tt, refl), tt, refl), refl), (sized_decided, search rules, refl), refl), refl)

-- functions

head_decided : LL1 head
unfolding head ignored return_type base_type plain_type byte_type qubit_type result_type void_type global
head_decided = ((tt, refl, refl), (return_starts.decided, tt, refl), refl)

tail_decided : LL1 tail
unfolding tail ignored groups group
tail_decided = ((tt, refl, refl), groups_decided, refl)

pub declared_param_starts : Starts declared_param type_firsts true
unfolding declared_param worded_type value_type_at base_type plain_type byte_type qubit_type result_type void_type
declared_param_starts = record { decided = worded_starts.decided; some = refl; begins = refl; marked = refl }

pub param_starts : Starts param type_firsts true
unfolding param worded_type ignored value_type_at base_type plain_type byte_type qubit_type result_type void_type local
param_starts = record { decided = (worded_starts.decided, (tt, refl), refl); some = refl; begins = refl; marked = refl }

declared_params_decided : LL1 (params_of declared_param)
unfolding params_of declared_param worded_type ignored value_type_at base_type plain_type byte_type qubit_type result_type void_type listed preceded
declared_params_decided = let a = worded_starts.decided in (tt, ((((a, ((tt, a, refl), refl, refl), refl), refl), tt, refl)), refl)

params_decided : LL1 (params_of param)
unfolding params_of param worded_type ignored value_type_at base_type plain_type byte_type qubit_type result_type void_type local listed preceded
params_decided = let a : LL1 param = (worded_starts.decided, (tt, refl), refl) in (tt, ((((a, ((tt, a, refl), refl, refl), refl), refl), tt, refl)), refl)

declaration_decided : LL1 declaration
unfolding declaration head ignored return_type params_of tail groups group global listed
declaration_decided = (tt, (head_decided, (declared_params_decided, tail_decided, refl), refl), refl)

definition_decided : LL1 definition
unfolding definition head ignored return_type params_of tail groups group global blocks listed
definition_decided = (tt, (head_decided, (params_decided, (tail_decided, blocks_decided, refl), refl), refl), refl)

-- attributes and metadata

pub attribute_starts : Starts attribute (kind.Str ∷ words) false
unfolding attribute setting
attribute_starts = record { decided = search rules; some = refl; begins = refl; marked = refl }

group_decided : LL1 attribute_group
unfolding attribute_group attribute setting group
group_decided = search rules

abbrev pub integer_part_firsts : List Kind
integer_part_firsts = kind.I1 ∷ kind.I8 ∷ kind.I16 ∷ kind.I32 ∷ kind.I64 ∷ kind.SameWidth ∷ kind.OddWidth ∷ []

pub integer_part_starts : Starts integer_part integer_part_firsts false
unfolding integer_part bit_part width_part in_width
integer_part_starts = record {
  decided = ((tt, (tt, tt, refl, refl, refl), refl), (tt, refl, λ w. (tt, refl, λ h. refl, refl)), refl, refl, refl);
  some = refl;
  begins = refl;
  marked = refl;
}

pub part_starts : Starts part (integer_part_firsts ++ kind.Bang ∷ []) false
unfolding part integer_part bit_part width_part in_width
part_starts = record { decided = (integer_part_starts.decided, (tt, tt, refl), refl, refl, refl); some = refl; begins = refl; marked = refl }

pub elem_starts : Starts elem (integer_part_firsts ++ kind.Node ∷ kind.Null ∷ kind.Bang ∷ []) false
unfolding elem integer_part bit_part width_part in_width node bang_elem parts part listed preceded
elem_starts =
    let p = part_starts.decided in
    let ps : LL1 parts = (tt, ((((p, ((tt, p, refl), refl, refl), refl), refl), tt, refl)), refl) in
    record {
      decided = (integer_part_starts.decided, (tt, (tt, (tt, (tt, ps, refl, refl, refl), refl), refl, refl, refl), refl, refl, refl), refl, refl, refl);
      some = refl;
      begins = refl;
      marked = refl;
    }

pub node_starts : Starts node (kind.Node ∷ []) false
unfolding node
node_starts = record { decided = tt; some = refl; begins = refl; marked = refl }

list_decided : LL1 list_line
unfolding list_line nodes node listed preceded
list_decided = search rules

node_decided : LL1 node_line
unfolding node_line elems node elem integer_part bit_part width_part in_width bang_elem parts part listed preceded
node_decided = let a = elem_starts.decided in ((tt, tt, refl), (tt, (tt, ((((a, ((tt, a, refl), refl, refl), refl), refl), tt, refl)), refl), refl), refl)

-- items

header_ends : extensions header ≡ []
unfolding header source_name target_line type_line local
header_ends = refl

constant_ends : extensions constant_line ≡ kind.Comma ∷ []
unfolding constant_line alignment nat constant_words sized_bytes array_type global
constant_ends = refl

declaration_ends : extensions declaration ≡ kind.Group ∷ kind.UnnamedAddr ∷ kind.LocalUnnamedAddr ∷ []
unfolding declaration tail groups group params_of listed head ignored return_type global
declaration_ends = refl

definition_ends : extensions definition ≡ []
unfolding definition tail groups group params_of listed head ignored return_type global blocks first_block block body label lines line call call_word local terminator ret branch switch two_targets condition target case
definition_ends = refl

group_ends : extensions attribute_group ≡ []
unfolding attribute_group attribute group
group_ends = refl

list_ends : extensions list_line ≡ []
unfolding list_line nodes node listed
list_ends = refl

node_ends : extensions node_line ≡ []
unfolding node_line elems node listed
node_ends = refl

item_ends : extensions item ≡ kind.Comma ∷ kind.Group ∷ kind.UnnamedAddr ∷ kind.LocalUnnamedAddr ∷ []
unfolding item function metadata
item_ends = rw (header_ends, constant_ends, declaration_ends, definition_ends, group_ends, list_ends, node_ends) refl

abbrev pub item_firsts : List Kind
item_firsts = header_firsts ++ kind.Global ∷ kind.Declare ∷ kind.Define ∷ kind.Attributes ∷ kind.MetaName ∷ kind.Node ∷ []

pub item_starts : Starts item item_firsts false
unfolding item header function metadata source_name target_line type_line local constant_line global declaration definition attribute_group list_line node_line node
item_starts = record {
  decided = (header_starts.decided, (constant_decided, ((declaration_decided, definition_decided, refl, refl, refl), (group_decided, (list_decided, node_decided, refl, refl, refl), refl, refl, refl), refl, refl, refl), refl, refl, refl), refl, refl, refl);
  some = refl;
  begins = refl;
  marked = refl;
}

item_again : apart tokens (extensions item) (firsts item) ≡ true
item_again = rw (item_ends, item_starts.begins) refl

items_end : apart tokens (firsts item ++ extensions item) (kind.End ∷ []) ≡ true
items_end = rw (item_ends, item_starts.begins) refl

pub module_starts : Starts module_text (item_firsts ++ kind.End ∷ []) false
unfolding module_text item header function metadata source_name target_line type_line local constant_line global declaration definition attribute_group list_line node_line node
module_starts = record { decided = ((item_starts.decided, refl, item_again), tt, items_end); some = refl; begins = refl; marked = refl }
