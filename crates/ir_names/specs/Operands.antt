-- Operands.
use Rattle.std.specs.Prelude.{ℕ, Bool, false, not, ◌==◌, if◌then◌else◌, Option, None, Some, List, []}
use Rattle.ir_tokens.specs.declared.token.Token.{Token}
use Rattle.ir_grammar.specs.declared.tree.OperandSyntax.{OperandSyntax}
use Rattle.ir_grammar.specs.declared.tree.OperandSyntax.TheVariants as syntax
use Rattle.ir_module.specs.declared.tree.Operand.{Operand}
use Rattle.ir_module.specs.declared.tree.Operand.TheVariants.{Const, Local}
use Rattle.ir_values.specs.Double.{is_double}
use Rattle.ir_values.specs.declared.value.Value.{Value}
use Rattle.ir_values.specs.declared.value.Value.TheVariants as value
use Rattle.ir_names.specs.declared.fault.Fault.{Fault}
use Rattle.ir_names.specs.declared.fault.NameCode.TheVariants.{Unknown, StringLength}
use Rattle.ir_names.specs.Faults.{fault, fault_if, unknown}
use Rattle.ir_names.specs.Sense.{Sense, global_id, func_id, local_id}

abbrev pub is_size : Option ℕ → ℕ → Bool
is_size None n = false
is_size (Some m) n = m == n

-- a label expression has a constant, and its length; a wrong length is told at the word `getelementptr`
abbrev pub label_faults : Sense → Token → ℕ → Token → Option ℕ → List Fault
label_faults s word n t None = fault Unknown t
label_faults s word n t (Some k) = fault_if (not (is_size (s.size k) n)) StringLength word

abbrev pub operand_faults : Sense → OperandSyntax → List Fault
operand_faults s (syntax.Integer i) = []
operand_faults s (syntax.Double t) = []
operand_faults s (syntax.Handle n) = []
operand_faults s syntax.NoLabel = []
operand_faults s (syntax.LabelOf word n t) = label_faults s word n t (s.constant (s.name t))
operand_faults s (syntax.Function t) = unknown t (s.function (s.name t))
operand_faults s (syntax.Local t) = unknown t (s.value (s.name t))

-- a double keeps its spelling; a token of that sort has no other form
abbrev pub double_of : List ℕ → Value
double_of bytes = if is_double bytes then value.Double bytes else value.NoLabel

abbrev pub operand_of : Sense → OperandSyntax → Operand
operand_of s (syntax.Integer i) = Const (value.Int i)
operand_of s (syntax.Double t) = Const (double_of (s.spelling t))
operand_of s (syntax.Handle n) = Const (value.Id n)
operand_of s syntax.NoLabel = Const value.NoLabel
operand_of s (syntax.LabelOf word n t) = Const (value.Label (global_id (s.constant (s.name t))))
operand_of s (syntax.Function t) = Const (value.Func (func_id (s.function (s.name t))))
operand_of s (syntax.Local t) = Local (local_id (s.value (s.name t)))
