-- Operands of a type (LLVM Language Reference, 'Constants'; QIR specification, 'Qubits and Results').
use Rattle.std.specs.Prelude.{ℕ, [], ◌∷◌}
use Rattle.grammar.specs.Grammar.{Grammar, tok, as_tree, dep, second}
use Rattle.ir_values.specs.declared.int.Width.{Width}
use Rattle.ir_values.specs.declared.int.Width.TheVariants as width
use Rattle.ir_values.specs.declared.ty.Ty.{Ty}
use Rattle.ir_values.specs.declared.ty.Ty.TheVariants as ty
use Rattle.ir_values.specs.Int.{IntValue}
use Rattle.ir_tokens.specs.declared.kind.Kind.{Kind}
use Rattle.ir_tokens.specs.declared.kind.Kind.TheVariants as kind
use Rattle.ir_tokens.specs.declared.token.Token.{Token}
use Rattle.ir_grammar.specs.declared.tree.OperandSyntax.{OperandSyntax}
use Rattle.ir_grammar.specs.declared.tree.OperandSyntax.TheVariants.{Integer, Double, Handle, NoLabel, LabelOf, Function, Local}
use Rattle.ir_tokens.specs.Tokens.{tokens}
use Rattle.ir_grammar.specs.Forms.{one, one_of, first, ◌▸◌, ◌◂◌, ◌&◌, ◌or◌}
use Rattle.ir_grammar.specs.SideRules.{same_number}
use Rattle.ir_grammar.specs.Words.{local, global, nat, integer, zero_number}

-- a local value, or else this
abbrev pub or_local : Grammar tokens OperandSyntax → Grammar tokens OperandSyntax
or_local a = as_tree Local local or a

-- Integers.

abbrev pub truth_of : Kind → IntValue
truth_of kind.True = record { width = width.W1; bits = 1 }
truth_of k = record { width = width.W1; bits = 0 }

-- "true" | "false"
unfoldable pub truth : Grammar tokens IntValue
truth = as_tree (λ t. truth_of t.kind) (one_of (kind.True ∷ kind.False ∷ []))

-- an integer of the width; of width 1 also "true" and "false"
abbrev pub constant_of : Width → Grammar tokens IntValue
constant_of width.W1 = truth or integer width.W1
constant_of w = integer w

unfoldable pub constant : Width → Grammar tokens IntValue
constant w = constant_of w

-- op(ity) = integer | local
unfoldable pub integer_operand : Width → Grammar tokens OperandSyntax
integer_operand w = or_local (as_tree Integer (constant w))

-- Doubles.

-- op(double) = double | local
unfoldable pub double_operand : Grammar tokens OperandSyntax
double_operand = or_local (as_tree Double (one kind.DoubleLiteral))

-- Qubits and results.

-- "inttoptr" "(" "i64" integer "to" "%Qubit" "*" ")"
unfoldable pub numbered_handle : Kind → Grammar tokens OperandSyntax
numbered_handle name =
    kind.IntToPtr ▸ kind.Open ▸ kind.I64 ▸ as_tree (λ i. Handle i.bits) (integer width.W64 ◂ kind.To ◂ name ◂ kind.Star ◂ kind.Close)

-- op(%Qubit*) = "null" | "inttoptr" .. | local
unfoldable pub handle_operand : Kind → Grammar tokens OperandSyntax
handle_operand name = or_local (as_tree (λ t. Handle 0) (one kind.Null) or numbered_handle name)

-- Labels.

-- z = ("i32" | "i64") 0
unfoldable pub zero_index : Grammar tokens Token
zero_index = as_tree second (one_of (kind.I32 ∷ kind.I64 ∷ []) & zero_number)

-- "[" nat "x" "i8" "]"
unfoldable pub array_type : Grammar tokens ℕ
array_type = kind.OpenSquare ▸ nat ◂ kind.X ◂ kind.I8 ◂ kind.CloseSquare

-- the same with the number n
unfoldable pub same_array : ℕ → Grammar tokens Token
same_array n = kind.OpenSquare ▸ tok (kind.Nat ∷ []) (same_number n) ◂ kind.X ◂ kind.I8 ◂ kind.CloseSquare

-- two array types of one number
unfoldable pub array_types : Grammar tokens ℕ
array_types = as_tree first (dep (array_type ◂ kind.Comma) [] same_array)

-- global "," z "," z
unfoldable pub indexed : Grammar tokens Token
indexed = as_tree first (global ◂ kind.Comma & zero_index ◂ kind.Comma & zero_index)

-- "getelementptr" "inbounds" "(" "[" nat "x" "i8" "]" "," "[" nat "x" "i8" "]" "*" global "," z "," z ")"
unfoldable pub label_operand : Grammar tokens OperandSyntax
label_operand = as_tree (λ (word, (length, constant)). LabelOf word length constant)
    (one kind.GetElementPtr & kind.InBounds ▸ kind.Open ▸ array_types ◂ kind.Star & indexed ◂ kind.Close)

-- op(i8*) = "null" | local | "getelementptr" ..
unfoldable pub text_operand : Grammar tokens OperandSyntax
text_operand = or_local (as_tree (λ t. NoLabel) (one kind.Null) or label_operand)

-- op(function pointer) = global | local
unfoldable pub function_operand : Grammar tokens OperandSyntax
function_operand = or_local (as_tree Function global)

-- op(type). There is none of `void`, which is no type of an operand.
unfoldable pub operand : Ty → Grammar tokens OperandSyntax
operand (ty.Int w) = integer_operand w
operand ty.Double = double_operand
operand ty.Qubit = handle_operand kind.QubitName
operand ty.Res = handle_operand kind.ResultName
operand ty.Text = text_operand
operand (ty.Func s) = function_operand
operand ty.Void = as_tree Local local
