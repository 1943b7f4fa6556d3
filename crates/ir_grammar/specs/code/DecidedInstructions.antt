-- One token of look-ahead decides in instructions.
use Rattle.std.proofs.Common.{◌≡◌, Bool, false, true, List, [], ◌∷◌, ◌++◌, refl, sym, ◌∙◌, rules}
use Rattle.std.proofs.lemmas.Bool.{false≢true}
use Rattle.grammar.specs.Grammar.{listed, preceded, ignored}
use Rattle.grammar.specs.LookAhead.{LL1, Starts, firsts, extensions, nullable, within}
use Rattle.ir_values.specs.declared.int.Width.{Width}
use Rattle.ir_values.specs.declared.int.Width.TheVariants as width
use Rattle.ir_values.specs.declared.int.Flags.{Flags}
use Rattle.ir_tokens.specs.declared.kind.Kind.TheVariants as kind
use Rattle.ir_tokens.specs.Tokens.{tokens}
use Rattle.ir_grammar.specs.Words.{local, global, group, integer}
use Rattle.ir_grammar.specs.Types.{integer_type, value_type_at, return_type, base_type, plain_type, byte_type, qubit_type, result_type, void_type}
use Rattle.ir_grammar.specs.Operands.{truth, constant, integer_operand}
use Rattle.ir_grammar.specs.Instructions.{not_yet, wrap_flag, wrapping, exacting, flagless, operand_pair, operand_pairs, binary, predicate, compare, convert, typed_operand, condition, select, worded_type, argument, callee, arguments, groups, call_word, call}
use Rattle.ir_grammar.specs.code.DecidedTypes.{type_firsts, type_starts, return_starts}
use Rattle.ir_grammar.specs.code.DecidedOperands.{integer_decided, integer_extensions, integer_some, typed_integer_decided, operand_decided, operand_apart, worded_apart, operand_extensions, operand_some}

-- flags

wrap_within : (a b : Bool) → within tokens (not_yet a kind.Nuw ++ not_yet b kind.Nsw) (kind.Nuw ∷ kind.Nsw ∷ []) ≡ true
wrap_within true true = refl
wrap_within true false = refl
wrap_within false true = refl
wrap_within false false = refl

pub wrap_decided : (f : Flags) → LL1 (wrap_flag f)
unfolding wrap_flag
wrap_decided f = tt

wrapping_decided : LL1 wrapping
unfolding wrapping wrap_flag
wrapping_decided = (tt, λ y. (tt, refl, wrap_within y.nuw y.nsw, refl, λ z. refl), refl)

exacting_decided : LL1 exacting
unfolding exacting
exacting_decided = (tt, (tt, refl), refl)

-- instructions

pair_decided : (w : Width) → LL1 (operand_pair w)
unfolding operand_pair
pair_decided w = simp (integer_extensions, integer_some) (search (rules, integer_decided))

pair_extensions : (w : Width) → extensions (operand_pair w) ≡ []
unfolding operand_pair integer_operand constant truth integer local
pair_extensions width.W1 = refl
pair_extensions _ = refl

pairs_decided : LL1 operand_pairs
unfolding operand_pairs integer_type
pairs_decided = (tt, refl, λ w. (pair_decided w, refl, λ h. refl, rw (pair_extensions w) refl))

pub binary_decided : LL1 binary
unfolding binary wrapping exacting flagless operand_pairs integer_type
binary_decided = ((wrapping_decided, (exacting_decided, tt, refl, refl, refl), refl, refl, refl), pairs_decided, refl)

pub compare_decided : LL1 compare
unfolding compare predicate operand_pairs integer_type
compare_decided = (tt, (tt, pairs_decided, refl), refl)

pub convert_decided : LL1 convert
unfolding convert integer_type
convert_decided = (tt, ((typed_integer_decided, tt, refl), tt, refl), refl)

typed_decided : LL1 typed_operand
unfolding typed_operand value_type_at
typed_decided = ((type_starts 64).decided, refl, λ x. (operand_decided x.ty, operand_apart x.ty, λ h. absurd (false≢true (sym (operand_some x.ty) ∙ h)), rw (operand_extensions x.ty) refl))

pub condition_decided : LL1 condition
unfolding condition
condition_decided = (tt, (integer_decided width.W1, tt, rw (integer_extensions width.W1) refl), refl)

pub condition_ends : extensions condition ≡ []
unfolding condition
condition_ends = rw (integer_some width.W1) refl

pub select_decided : LL1 select
unfolding select typed_operand value_type_at
select_decided = (tt, (condition_decided, ((typed_decided, tt, refl), typed_decided, refl), rw condition_ends refl), refl)

-- calls

pub worded_starts : Starts worded_type type_firsts true
unfolding worded_type ignored value_type_at base_type plain_type byte_type qubit_type result_type void_type
worded_starts = record { decided = ((type_starts 64).decided, (tt, refl, refl), refl); some = refl; begins = refl; marked = refl }

pub argument_starts : Starts argument type_firsts true
unfolding argument worded_type ignored value_type_at base_type plain_type byte_type qubit_type result_type void_type
argument_starts = record {
  decided = (worded_starts.decided, refl, λ x. (operand_decided x.ty, worded_apart x.ty, λ h. absurd (false≢true (sym (operand_some x.ty) ∙ h)), rw (operand_extensions x.ty) refl));
  some = refl;
  begins = refl;
  marked = refl;
}

arguments_decided : LL1 arguments
unfolding arguments argument worded_type value_type_at listed preceded base_type plain_type byte_type qubit_type result_type void_type
arguments_decided = let a = argument_starts.decided in (tt, ((((a, ((tt, a, refl), refl, refl), refl), refl), tt, refl)), refl)

pub group_starts : Starts group (kind.Group ∷ []) false
unfolding group
group_starts = record { decided = tt; some = refl; begins = refl; marked = refl }

pub groups_decided : LL1 groups
unfolding groups group
groups_decided = (tt, refl, refl)

pub call_decided : LL1 call
unfolding call call_word return_type callee local global arguments group groups listed
call_decided = ((tt, (tt, tt, refl), refl, refl, refl), (return_starts.decided, (search rules, (arguments_decided, groups_decided, refl), refl), refl), refl)
