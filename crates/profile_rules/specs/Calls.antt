-- What a call calls, and of which kind it is (QIR specification, 'Runtime Functions' and 'Quantum Instruction Set').
use Rattle.std.specs.Prelude.{Bool, true, false, is_some, if◌then◌else◌, Option, None, Some, List, option_and_then, slice_get, codes}
use Rattle.ir_values.specs.declared.class.Class.{Class}
use Rattle.ir_values.specs.declared.class.Class.TheVariants as class
use Rattle.ir_values.specs.declared.ty.Ty.{Ty}
use Rattle.ir_module.specs.declared.tree.Callee.{Callee}
use Rattle.ir_module.specs.declared.tree.Callee.TheVariants as callee
use Rattle.ir_module.specs.declared.tree.Function.{Function}
use Rattle.ir_module.specs.declared.tree.InstKind.{InstKind}
use Rattle.ir_module.specs.declared.tree.InstKind.TheVariants as kind
use Rattle.ir_module.specs.declared.tree.Module.{Module}
use Rattle.ir_module.specs.declared.tree.Operand.{Operand}
use Rattle.ir_module.specs.declared.tree.Operand.TheVariants as operand
use Rattle.ir_module.specs.Classes.{class_of_function}
use Rattle.ir_module.specs.Entry.{has_attribute}
use Rattle.ir_module.specs.Steps.{Step, PhiAt, InstAt, TermAt, NoStep}

-- ---- calls

-- what a call calls, and its arguments with their types
pub record Call : Type 0 where
  pub callee : Callee
  pub args : List (Ty × Operand)

abbrev pub call_of_kind : InstKind → Option Call
call_of_kind (kind.Call ret g args) = Some (record { callee = g; args = args })
call_of_kind k = None

abbrev pub call_of : Step → Option Call
call_of (PhiAt phi) = None
call_of (InstAt i) = call_of_kind i.what
call_of (TermAt t) = None
call_of NoStep = None

abbrev pub passes : {A : Type 0} → Option A → (A → Bool) → Bool
passes None test = false
passes (Some x) test = test x

-- the test of the step's call; false where the step is no call
abbrev pub at_call : Step → (Call → Bool) → Bool
at_call s test = passes (call_of s) test

abbrev pub is_constant : Operand → Bool
is_constant (operand.Const v) = true
is_constant (operand.Local x) = false

-- ---- what is called

-- the function that is called by its name
abbrev pub called_function : Module → Callee → Option Function
called_function m (callee.Func g) = slice_get m.funcs g.0
called_function m (callee.Local x) = None

-- what a function does where it is declared; one with a body has no class
abbrev pub declared_class : Function → Option Class
declared_class f = if is_some f.blocks then None else class_of_function f

-- the class of the declared function that is called
abbrev pub called_class : Module → Callee → Option Class
called_class m g = option_and_then declared_class (called_function m g)

abbrev pub calls_class : Module → (Class → Bool) → Call → Bool
calls_class m test c = passes (called_class m c.callee) test

abbrev pub calls_body : Module → Call → Bool
calls_body m c = passes (called_function m c.callee) (λ f. is_some f.blocks)

-- the declaration says that what is called can't be undone
abbrev pub is_irreversible : Function → Bool
is_irreversible f = has_attribute (codes "irreversible") f.attrs

abbrev pub calls_irreversible : Module → Call → Bool
calls_irreversible m c = passes (called_function m c.callee) is_irreversible

-- ---- kinds of declared functions

abbrev pub is_init : Class → Bool
is_init class.Init = true
is_init c = false

abbrev pub is_gate : Class → Bool
is_gate class.Gate = true
is_gate c = false

abbrev pub is_measure : Class → Bool
is_measure class.Measure = true
is_measure c = false

-- those that record output
abbrev pub is_record : Class → Bool
is_record class.Tuple = true
is_record class.Array = true
is_record class.ResRecord = true
is_record class.BoolRecord = true
is_record class.IntRecord = true
is_record class.DoubleRecord = true
is_record c = false

abbrev pub is_int_record : Class → Bool
is_int_record class.IntRecord = true
is_int_record c = false

-- those whose first argument is the count of what follows
abbrev pub has_count : Class → Bool
has_count class.Tuple = true
has_count class.Array = true
has_count c = false
