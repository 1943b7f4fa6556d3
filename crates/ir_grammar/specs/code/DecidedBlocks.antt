-- One token of look-ahead decides in blocks.
use Rattle.std.proofs.Common.{◌≡◌, false, true, List, [], ◌∷◌, refl, sym, ◌∙◌}
use Rattle.std.proofs.lemmas.Bool.{false≢true}
use Rattle.grammar.specs.Grammar.{listed}
use Rattle.grammar.specs.LookAhead.{LL1, Starts, firsts, extensions, nullable, apart, within}
use Rattle.ir_values.specs.declared.ty.Ty.{Ty}
use Rattle.ir_values.specs.declared.ty.Ty.TheVariants as ty
use Rattle.ir_tokens.specs.declared.kind.Kind.TheVariants as kind
use Rattle.ir_tokens.specs.declared.token.Token.{Token}
use Rattle.ir_grammar.specs.declared.tree.TypeSyntax.{TypeSyntax}
use Rattle.ir_grammar.specs.declared.tree.LineSyntax.{LineSyntax}
use Rattle.ir_grammar.specs.declared.tree.LinesSyntax.{LinesSyntax}
use Rattle.ir_tokens.specs.Tokens.{tokens}
use Rattle.ir_grammar.specs.Forms.{◌▸◌}
use Rattle.ir_grammar.specs.Words.{local, global, label, group, integer}
use Rattle.ir_grammar.specs.Types.{type_kinds, integer_type, value_type_at, return_type}
use Rattle.ir_grammar.specs.Operands.{truth, constant, integer_operand, operand}
use Rattle.ir_grammar.specs.Instructions.{wrapping, exacting, flagless, operand_pairs, binary, predicate, compare, convert, typed_operand, condition, select, callee, arguments, groups, call_word, call}
use Rattle.ir_grammar.specs.Blocks.{entry, entries, phi, valued, named_in, named, line, lines, returned, ret, target, two_targets, branch, case, switch, terminator, body, first_block, block, blocks}
use Rattle.ir_grammar.specs.code.DecidedTypes.{type_starts, return_starts}
use Rattle.ir_grammar.specs.code.DecidedOperands.{typed_integer_decided, typed_constant_decided, operand_decided, operand_apart, operand_extensions, operand_some}
use Rattle.ir_grammar.specs.code.DecidedInstructions.{binary_decided, compare_decided, convert_decided, condition_decided, condition_ends, select_decided, call_decided}

-- phis

entry_decided : (x : Ty) → LL1 (entry x)
unfolding entry local
entry_decided x = (tt, ((operand_decided x, tt, rw (operand_extensions x) refl), (tt, tt, refl), refl), refl)

entry_extensions : (x : Ty) → extensions (entry x) ≡ []
unfolding entry local
entry_extensions x = rw (operand_some x) refl

entry_some : (x : Ty) → nullable (entry x) ≡ false
unfolding entry
entry_some x = refl

more_entries : (x : Ty) → extensions (kind.Comma ▸ entry x) ≡ []
more_entries x = rw (entry_extensions x, entry_some x) refl

pub entry_starts : (x : Ty) → Starts (entry x) (kind.OpenSquare ∷ []) false
unfolding entry
entry_starts x = record { decided = entry_decided x; some = refl; begins = refl; marked = refl }

pub comma_entry_starts : (x : Ty) → Starts (kind.Comma ▸ entry x) (kind.Comma ∷ []) false
comma_entry_starts x = record { decided = (tt, entry_decided x, refl); some = refl; begins = refl; marked = refl }

entries_decided : (x : TypeSyntax) → LL1 (entries x)
unfolding entries
entries_decided x = let e = entry_decided x.ty in (e, ((tt, e, refl), refl, rw (more_entries x.ty) refl), rw (entry_extensions x.ty) refl)

entries_extensions : (x : TypeSyntax) → extensions (entries x) ≡ kind.Comma ∷ []
unfolding entries
entries_extensions x = rw (more_entries x.ty, entry_extensions x.ty) refl

entries_some : (x : TypeSyntax) → nullable (entries x) ≡ false
unfolding entries
entries_some x = rw (entry_some x.ty) refl

entries_within : (x : TypeSyntax) → within tokens (extensions (entries x)) (kind.Comma ∷ []) ≡ true
entries_within x = rw (entries_extensions x) refl

phi_decided : LL1 phi
unfolding phi entries entry value_type_at
phi_decided = (tt, ((type_starts 64).decided, refl, λ x. (entries_decided x, refl, λ h. absurd (false≢true (sym (entries_some x) ∙ h)), entries_within x)), refl)

-- lines

valued_decided : LL1 valued
unfolding valued binary compare convert select call call_word wrapping exacting flagless
valued_decided = (binary_decided, (compare_decided, (convert_decided, (select_decided, call_decided, refl, refl, refl), refl, refl, refl), refl, refl, refl), refl, refl, refl)

named_in_decided : (is : List LineSyntax) (ls : LinesSyntax) (t : Token) → LL1 (named_in is ls t)
unfolding phi valued binary compare convert select call call_word wrapping exacting flagless
named_in_decided [] ls t = (phi_decided, valued_decided, refl, refl, refl)
named_in_decided (i ∷ is) ls t = valued_decided

valued_extensions : extensions valued ≡ kind.Group ∷ []
unfolding valued binary compare convert select condition call call_word group groups typed_operand operand_pairs integer_type predicate integer_operand local constant truth integer arguments listed callee global return_type
valued_extensions = refl

named_within : (is : List LineSyntax) (ls : LinesSyntax) (t : Token) → within tokens (extensions (named_in is ls t)) (kind.Comma ∷ kind.Group ∷ []) ≡ true
unfolding phi
named_within [] ls t = rw valued_extensions refl
named_within (i ∷ is) ls t = rw valued_extensions refl

pub line_decided : (ls : LinesSyntax) → LL1 (line ls)
unfolding line named local call call_word
line_decided ls = (((tt, tt, refl), refl, λ t. (named_in_decided ls.insts ls t, refl, λ h. refl, named_within ls.insts ls t)), call_decided, refl, refl, refl)

lines_decided : LL1 lines
unfolding lines line local call call_word group groups arguments listed callee global return_type
lines_decided = λ y. (line_decided y, refl, refl, refl, λ z. refl)

-- terminators

returned_decided : (x : Ty) → LL1 (returned x)
returned_decided ty.Void = tt
returned_decided (ty.Int w) = operand_decided (ty.Int w)
returned_decided ty.Double = operand_decided ty.Double
returned_decided ty.Qubit = operand_decided ty.Qubit
returned_decided ty.Res = operand_decided ty.Res
returned_decided ty.Text = operand_decided ty.Text
returned_decided (ty.Func s) = operand_decided (ty.Func s)

returned_apart : (x : Ty) → apart tokens type_kinds (firsts (returned x)) ≡ true
returned_apart ty.Void = refl
returned_apart (ty.Int w) = operand_apart (ty.Int w)
returned_apart ty.Double = operand_apart ty.Double
returned_apart ty.Qubit = operand_apart ty.Qubit
returned_apart ty.Res = operand_apart ty.Res
returned_apart ty.Text = operand_apart ty.Text
returned_apart (ty.Func s) = operand_apart (ty.Func s)

returned_extensions : (x : Ty) → extensions (returned x) ≡ []
returned_extensions ty.Void = refl
returned_extensions (ty.Int w) = operand_extensions (ty.Int w)
returned_extensions ty.Double = operand_extensions ty.Double
returned_extensions ty.Qubit = operand_extensions ty.Qubit
returned_extensions ty.Res = operand_extensions ty.Res
returned_extensions ty.Text = operand_extensions ty.Text
returned_extensions (ty.Func s) = operand_extensions (ty.Func s)

ret_decided : LL1 ret
unfolding ret return_type
ret_decided = (tt, (return_starts.decided, refl, λ x. (returned_decided x.ty, returned_apart x.ty, λ h. refl, rw (returned_extensions x.ty) refl)), refl)

target_decided : LL1 target
unfolding target local
target_decided = (tt, tt, refl)

two_decided : LL1 two_targets
unfolding two_targets target local
two_decided = (condition_decided, ((target_decided, tt, refl), target_decided, refl), rw condition_ends refl)

branch_decided : LL1 branch
unfolding branch target two_targets condition local
branch_decided = (tt, (target_decided, two_decided, refl, refl, refl), refl)

pub case_starts : Starts case (kind.I1 ∷ kind.I8 ∷ kind.I16 ∷ kind.I32 ∷ kind.I64 ∷ []) true
unfolding case target local integer_type
case_starts = record { decided = ((typed_constant_decided, tt, refl), (tt, tt, refl), refl); some = refl; begins = refl; marked = refl }

switch_decided : LL1 switch
unfolding switch target local case integer_type
switch_decided = (tt, ((typed_integer_decided, tt, refl), (target_decided, (tt, ((case_starts.decided, refl, refl), tt, refl), refl), refl), refl), refl)

terminator_decided : LL1 terminator
unfolding terminator ret branch switch
terminator_decided = (ret_decided, (branch_decided, switch_decided, refl, refl, refl), refl, refl, refl)

-- blocks

body_decided : LL1 body
unfolding body lines line terminator ret branch switch call call_word local
body_decided = (lines_decided, terminator_decided, refl)

first_decided : LL1 first_block
unfolding first_block body label lines line terminator ret branch switch call call_word local
first_decided = ((tt, refl), body_decided, refl)

pub block_starts : Starts block (kind.Label ∷ []) false
unfolding block label
block_starts = record { decided = (tt, body_decided, refl); some = refl; begins = refl; marked = refl }

pub blocks_decided : LL1 blocks
unfolding blocks first_block block body label lines line call call_word local terminator ret branch switch two_targets condition target return_type case integer_operand constant truth integer integer_type
blocks_decided = (tt, ((first_decided, (block_starts.decided, refl, refl), refl), tt, refl), refl)
