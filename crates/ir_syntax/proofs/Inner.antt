-- No item of a module text takes the end of the text, or the token that stands where it goes on with none.
use Rattle.std.proofs.Common.{◌≡◌, ℕ, zero, suc, Bool, false, true, List, [], ◌∷◌, ◌++◌, refl, rules}
use Rattle.grammar.specs.Grammar.{Grammar, dep, listed, preceded, ignored}
use Rattle.grammar.specs.LookAhead.{apart}
use Rattle.ir_values.specs.declared.int.Width.{Width}
use Rattle.ir_values.specs.declared.int.Width.TheVariants as width
use Rattle.ir_values.specs.declared.ty.Ty.{Ty}
use Rattle.ir_values.specs.declared.ty.Ty.TheVariants as ty
use Rattle.ir_tokens.specs.declared.kind.Kind.{Kind}
use Rattle.ir_tokens.specs.declared.kind.Kind.TheVariants as kind
use Rattle.ir_tokens.specs.declared.token.Token.{Token}
use Rattle.ir_tokens.specs.Tokens.{tokens}
use Rattle.ir_grammar.specs.declared.tree.LineSyntax.{LineSyntax}
use Rattle.ir_grammar.specs.declared.tree.LinesSyntax.{LinesSyntax}
use Rattle.ir_grammar.specs.declared.tree.TypeSyntax.{TypeSyntax}
use Rattle.ir_grammar.specs.Words.{local, global, label, group, node, nat, integer, zero_number}
use Rattle.ir_grammar.specs.Types.{integer_type, plain_type, byte_type, qubit_type, result_type, void_type, base_type, value_type_of, suffix_of, suffix_at, value_type_at, return_type}
use Rattle.ir_grammar.specs.Operands.{truth, constant, integer_operand, double_operand, numbered_handle, handle_operand, zero_index, indexed, array_type, same_array, array_types, label_operand, text_operand, function_operand, operand}
use Rattle.ir_grammar.specs.Instructions.{not_yet, wrap_flag, wrapping, exacting, flagless, operand_pair, operand_pairs, binary, predicate, compare, convert, typed_operand, condition, select, worded_type, argument, callee, arguments, groups, call_word, call}
use Rattle.ir_grammar.specs.Blocks.{entry, entries, phi, valued, named_in, named, line, lines, returned, ret, target, two_targets, branch, case, switch, terminator, body, first_block, block, blocks}
use Rattle.ir_grammar.specs.Functions.{head, tail, declared_param, param, params_of, declaration, definition}
use Rattle.ir_grammar.specs.Metadata.{in_width, bit_part, width_part, integer_part, part, parts, bang_elem, elem, nodes, elems, list_line, node_line}
use Rattle.ir_grammar.specs.Module.{source_name, target_line, type_line, header, bytes_of, sized_bytes, constant_words, alignment, constant_line, setting, attribute, attribute_group, function, metadata, item}
use Rattle.ir_syntax.proofs.Without.{Without}

-- the kinds of the last token of a text
abbrev pub last_kinds : List Kind
last_kinds = kind.End ∷ kind.Bad ∷ []

abbrev pub Inner : {A : Type 0} → Grammar tokens A → Type 0
Inner g = Without {L = tokens} last_kinds g

-- types

base_inner : Inner base_type
unfolding base_type plain_type byte_type qubit_type result_type
base_inner = search rules

module _ (suffix : TypeSyntax → Grammar tokens TypeSyntax) (p : (x : TypeSyntax) → Inner (suffix x)) where
  value_inner : Inner (value_type_of suffix)
  unfolding void_type
  value_inner = ((base_inner, (refl, p)), λ x y. p y)

  members_inner : (n : ℕ) (x : TypeSyntax) → Inner (suffix_of (value_type_of suffix) n x)
  unfolding listed preceded
  members_inner n x = let v = value_inner in (refl, (((v, (refl, v)), refl), refl))

suffix_inner : (n : ℕ) (x : TypeSyntax) → Inner (suffix_at n x)
unfolding suffix_at
suffix_inner zero x = refl
suffix_inner (suc n) x = members_inner (suffix_at n) (suffix_inner n) (suc n) x

type_inner : (n : ℕ) → Inner (value_type_at n)
unfolding value_type_at
type_inner n = value_inner (suffix_at n) (suffix_inner n)

return_inner : Inner return_type
unfolding return_type void_type
return_inner = ((base_inner, refl), λ x y. suffix_inner 64 y)

-- operands

constant_inner : (w : Width) → Inner (constant w)
unfolding constant truth integer
constant_inner width.W1 = search rules
constant_inner _ = refl

integer_inner : (w : Width) → Inner (integer_operand w)
unfolding integer_operand local
integer_inner w = (refl, constant_inner w)

typed_integer_inner : Inner (dep integer_type [] integer_operand)
unfolding integer_type
typed_integer_inner = (refl, integer_inner)

double_inner : Inner double_operand
unfolding double_operand local
double_inner = search rules

qubit_inner : Inner (handle_operand kind.QubitName)
unfolding handle_operand numbered_handle local integer
qubit_inner = search rules

result_inner : Inner (handle_operand kind.ResultName)
unfolding handle_operand numbered_handle local integer
result_inner = search rules

array_inner : Inner array_type
unfolding array_type nat
array_inner = search rules

same_inner : (n : ℕ) → Inner (same_array n)
unfolding same_array
same_inner n = search rules

arrays_inner : Inner array_types
unfolding array_types
arrays_inner = ((array_inner, refl), same_inner)

indexed_inner : Inner indexed
unfolding indexed zero_index zero_number global
indexed_inner = search rules

text_inner : Inner text_operand
unfolding text_operand label_operand local
text_inner = (refl, (refl, (refl, (refl, (refl, ((arrays_inner, refl), (indexed_inner, refl)))))))

function_inner : Inner function_operand
unfolding function_operand local global
function_inner = search rules

void_inner : Inner (operand ty.Void)
unfolding operand local
void_inner = refl

operand_inner : (x : Ty) → Inner (operand x)
unfolding operand
operand_inner ty.Void = void_inner
operand_inner (ty.Int w) = integer_inner w
operand_inner ty.Double = double_inner
operand_inner ty.Qubit = qubit_inner
operand_inner ty.Res = result_inner
operand_inner ty.Text = text_inner
operand_inner (ty.Func s) = function_inner

of_type_inner : (x : TypeSyntax) → Inner (operand x.ty)
of_type_inner x = operand_inner x.ty

-- instructions

flags_inner : (a b : Bool) → apart tokens last_kinds (not_yet a kind.Nuw ++ not_yet b kind.Nsw) ≡ true
flags_inner true true = refl
flags_inner true false = refl
flags_inner false true = refl
flags_inner false false = refl

wrapping_inner : Inner wrapping
unfolding wrapping wrap_flag
wrapping_inner = (refl, λ f. flags_inner f.nuw f.nsw)

exacting_inner : Inner exacting
unfolding exacting
exacting_inner = search rules

flagless_inner : Inner flagless
unfolding flagless
flagless_inner = refl

pairs_inner : Inner operand_pairs
unfolding operand_pairs operand_pair integer_type
pairs_inner = (refl, λ w. ((integer_inner w, refl), integer_inner w))

binary_inner : Inner binary
unfolding binary
binary_inner = ((wrapping_inner, (exacting_inner, flagless_inner)), pairs_inner)

compare_inner : Inner compare
unfolding compare predicate
compare_inner = (refl, (refl, pairs_inner))

convert_inner : Inner convert
unfolding convert integer_type
convert_inner = (refl, ((typed_integer_inner, refl), refl))

typed_inner : Inner typed_operand
unfolding typed_operand
typed_inner = (type_inner 64, of_type_inner)

condition_inner : Inner condition
unfolding condition
condition_inner = (refl, (integer_inner width.W1, refl))

select_inner : Inner select
unfolding select
select_inner = (refl, (condition_inner, ((typed_inner, refl), typed_inner)))

worded_inner : Inner worded_type
unfolding worded_type ignored
worded_inner = (type_inner 64, refl)

argument_inner : Inner argument
unfolding argument
argument_inner = (worded_inner, of_type_inner)

arguments_inner : Inner arguments
unfolding arguments listed preceded
arguments_inner = let a = argument_inner in (refl, ((a, (refl, a)), refl))

groups_inner : Inner groups
unfolding groups group
groups_inner = refl

call_inner : Inner call
unfolding call call_word callee local global
call_inner = (search rules, (return_inner, (search rules, (arguments_inner, groups_inner))))

-- blocks

entry_inner : (x : Ty) → Inner (entry x)
unfolding entry local
entry_inner x = (refl, ((operand_inner x, refl), (refl, refl)))

entries_inner : (x : TypeSyntax) → Inner (entries x)
unfolding entries
entries_inner x = let e = entry_inner x.ty in (e, (refl, e))

phi_inner : Inner phi
unfolding phi
phi_inner = (refl, (type_inner 64, entries_inner))

valued_inner : Inner valued
unfolding valued
valued_inner = (binary_inner, (compare_inner, (convert_inner, (select_inner, call_inner))))

named_inner : (is : List LineSyntax) (ls : LinesSyntax) (t : Token) → Inner (named_in is ls t)
named_inner [] ls t = (phi_inner, valued_inner)
named_inner (i ∷ is) ls t = valued_inner

line_inner : (ls : LinesSyntax) → Inner (line ls)
unfolding line named local
line_inner ls = (((refl, refl), λ t. named_inner ls.insts ls t), call_inner)

lines_inner : Inner lines
unfolding lines
lines_inner = line_inner

returned_inner : (x : Ty) → Inner (returned x)
returned_inner ty.Void = tt
returned_inner (ty.Int w) = operand_inner (ty.Int w)
returned_inner ty.Double = operand_inner ty.Double
returned_inner ty.Qubit = operand_inner ty.Qubit
returned_inner ty.Res = operand_inner ty.Res
returned_inner ty.Text = operand_inner ty.Text
returned_inner (ty.Func s) = operand_inner (ty.Func s)

ret_inner : Inner ret
unfolding ret
ret_inner = (refl, (return_inner, λ x. returned_inner x.ty))

target_inner : Inner target
unfolding target local
target_inner = (refl, refl)

branch_inner : Inner branch
unfolding branch two_targets
branch_inner = (refl, (target_inner, (condition_inner, ((target_inner, refl), target_inner))))

case_inner : Inner case
unfolding case integer_type
case_inner = (((refl, constant_inner), refl), target_inner)

switch_inner : Inner switch
unfolding switch
switch_inner = (refl, ((typed_integer_inner, refl), (target_inner, (refl, (case_inner, refl)))))

terminator_inner : Inner terminator
unfolding terminator
terminator_inner = (ret_inner, (branch_inner, switch_inner))

body_inner : Inner body
unfolding body
body_inner = (lines_inner, terminator_inner)

blocks_inner : Inner blocks
unfolding blocks first_block block label
blocks_inner = (refl, (((refl, body_inner), (refl, body_inner)), refl))

-- functions

head_inner : Inner head
unfolding head ignored global
head_inner = (refl, (return_inner, refl))

tail_inner : Inner tail
unfolding tail ignored
tail_inner = (refl, groups_inner)

declared_params_inner : Inner (params_of declared_param)
unfolding params_of declared_param listed preceded
declared_params_inner = let a = worded_inner in (refl, ((a, (refl, a)), refl))

params_inner : Inner (params_of param)
unfolding params_of param local listed preceded
params_inner = let a = worded_inner in (refl, (((a, refl), (refl, (a, refl))), refl))

declaration_inner : Inner declaration
unfolding declaration
declaration_inner = (refl, (head_inner, (declared_params_inner, tail_inner)))

definition_inner : Inner definition
unfolding definition
definition_inner = (refl, (head_inner, (params_inner, (tail_inner, blocks_inner))))

-- headers, constants, attributes and metadata

header_inner : Inner header
unfolding header source_name target_line type_line local
header_inner = search rules

sized_inner : Inner sized_bytes
unfolding sized_bytes bytes_of
sized_inner = (array_inner, λ n. refl)

constant_line_inner : Inner constant_line
unfolding constant_line constant_words alignment nat global
constant_line_inner = ((refl, refl), (search rules, (sized_inner, search rules)))

group_inner : Inner attribute_group
unfolding attribute_group attribute setting group
group_inner = search rules

integer_part_inner : Inner integer_part
unfolding integer_part bit_part width_part in_width
integer_part_inner = ((refl, (refl, refl)), (refl, λ w. refl))

parts_inner : Inner parts
unfolding parts part listed preceded
parts_inner = let a : Inner part = (integer_part_inner, (refl, refl)) in (refl, ((a, (refl, a)), refl))

elem_inner : Inner elem
unfolding elem node bang_elem
elem_inner = (integer_part_inner, (refl, (refl, (refl, (refl, parts_inner)))))

list_inner : Inner list_line
unfolding list_line nodes node listed preceded
list_inner = search rules

node_inner : Inner node_line
unfolding node_line elems node listed preceded
node_inner = let a = elem_inner in ((refl, refl), (refl, (refl, ((a, (refl, a)), refl))))

pub item_inner : Inner item
unfolding item function metadata
item_inner = (header_inner, (constant_line_inner, ((declaration_inner, definition_inner), (group_inner, (list_inner, node_inner)))))
