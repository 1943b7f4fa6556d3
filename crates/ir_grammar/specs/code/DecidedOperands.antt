-- One token of look-ahead decides in operands.
use Rattle.std.proofs.Common.{◌≡◌, false, true, List, [], ◌∷◌, refl, rules}
use Rattle.grammar.specs.Grammar.{opt, dep}
use Rattle.grammar.specs.LookAhead.{LL1, firsts, extensions, nullable, apart}
use Rattle.ir_values.specs.declared.int.Width.{Width}
use Rattle.ir_values.specs.declared.int.Width.TheVariants as width
use Rattle.ir_values.specs.declared.ty.Ty.{Ty}
use Rattle.ir_values.specs.declared.ty.Ty.TheVariants as ty
use Rattle.ir_tokens.specs.declared.kind.Kind.TheVariants as kind
use Rattle.ir_tokens.specs.Tokens.{tokens}
use Rattle.ir_grammar.specs.Words.{local, global, nat, integer, zero_number}
use Rattle.ir_grammar.specs.Types.{type_kinds, integer_type}
use Rattle.ir_grammar.specs.Operands.{truth, constant, integer_operand, double_operand, numbered_handle, handle_operand, zero_index, indexed, array_type, same_array, array_types, label_operand, text_operand, function_operand, operand}

-- constants and integers

pub constant_decided : (w : Width) → LL1 (constant w)
unfolding constant truth integer
constant_decided width.W1 = search rules
constant_decided width.W8 = search rules
constant_decided width.W16 = search rules
constant_decided width.W32 = search rules
constant_decided width.W64 = search rules

pub constant_extensions : (w : Width) → extensions (constant w) ≡ []
unfolding constant truth integer
constant_extensions width.W1 = refl
constant_extensions _ = refl

pub integer_decided : (w : Width) → LL1 (integer_operand w)
unfolding integer_operand constant truth integer local
integer_decided width.W1 = search rules
integer_decided width.W8 = search rules
integer_decided width.W16 = search rules
integer_decided width.W32 = search rules
integer_decided width.W64 = search rules

pub integer_extensions : (w : Width) → extensions (integer_operand w) ≡ []
unfolding integer_operand constant truth integer local
integer_extensions width.W1 = refl
integer_extensions _ = refl

pub integer_some : (w : Width) → nullable (integer_operand w) ≡ false
unfolding integer_operand constant truth integer local
integer_some width.W1 = refl
integer_some _ = refl

pub typed_integer_decided : LL1 (dep integer_type [] integer_operand)
unfolding integer_type
typed_integer_decided = (tt, refl, λ w. (integer_decided w, refl, λ h. refl, rw (integer_extensions w) refl))

pub typed_constant_decided : LL1 (dep integer_type [] constant)
unfolding integer_type
typed_constant_decided = (tt, refl, λ w. (constant_decided w, refl, λ h. refl, rw (constant_extensions w) refl))

-- operands of all types

double_decided : LL1 double_operand
unfolding double_operand local
double_decided = search rules

qubit_decided : LL1 (handle_operand kind.QubitName)
unfolding handle_operand numbered_handle local integer
qubit_decided = search rules

result_decided : LL1 (handle_operand kind.ResultName)
unfolding handle_operand numbered_handle local integer
result_decided = search rules

text_decided : LL1 text_operand
unfolding text_operand label_operand array_types array_type same_array zero_index zero_number indexed nat local global
text_decided = search rules

function_decided : LL1 function_operand
unfolding function_operand local global
function_decided = search rules

void_decided : LL1 (operand ty.Void)
unfolding operand local
void_decided = search rules

pub operand_decided : (x : Ty) → LL1 (operand x)
unfolding operand
operand_decided ty.Void = void_decided
operand_decided (ty.Int w) = integer_decided w
operand_decided ty.Double = double_decided
operand_decided ty.Qubit = qubit_decided
operand_decided ty.Res = result_decided
operand_decided ty.Text = text_decided
operand_decided (ty.Func s) = function_decided

pub operand_apart : (x : Ty) → apart tokens type_kinds (firsts (operand x)) ≡ true
unfolding operand integer_operand constant truth integer double_operand handle_operand numbered_handle text_operand label_operand function_operand local global
operand_apart (ty.Int width.W1) = refl
operand_apart (ty.Int _) = refl
operand_apart _ = refl

pub worded_apart : (x : Ty) → apart tokens (kind.WriteOnly ∷ kind.ReadOnly ∷ kind.NoCapture ∷ type_kinds) (firsts (operand x)) ≡ true
unfolding operand integer_operand constant truth integer double_operand handle_operand numbered_handle text_operand label_operand function_operand local global
worded_apart (ty.Int width.W1) = refl
worded_apart (ty.Int _) = refl
worded_apart _ = refl

pub operand_extensions : (x : Ty) → extensions (operand x) ≡ []
unfolding operand integer_operand constant truth integer double_operand handle_operand numbered_handle text_operand label_operand function_operand local global array_types indexed
operand_extensions (ty.Int width.W1) = refl
operand_extensions (ty.Int _) = refl
operand_extensions _ = refl

pub operand_some : (x : Ty) → nullable (operand x) ≡ false
unfolding operand integer_operand constant truth integer double_operand handle_operand numbered_handle text_operand label_operand function_operand local global
operand_some (ty.Int width.W1) = refl
operand_some (ty.Int _) = refl
operand_some _ = refl
