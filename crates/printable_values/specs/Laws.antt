-- Which values can be printed.
use Rattle.std.specs.Prelude.{◌≡◌, Bool, true, Result, Ok, Err}
use Rattle.ir_values.specs.declared.cause.Cause.{Cause}
use Rattle.ir_values.specs.declared.int.BinOp.{BinOp}
use Rattle.ir_values.specs.declared.int.Conv.{Conv}
use Rattle.ir_values.specs.declared.int.Flags.{Flags}
use Rattle.ir_values.specs.declared.int.Width.{Width}
use Rattle.ir_values.specs.declared.ty.Ty.{Ty}
use Rattle.ir_values.specs.declared.value.Value.{Value}
use Rattle.ir_values.specs.declared.value.Value.TheVariants as value
use Rattle.ir_values.specs.Arithmetic.{binary_of, convert_of}
use Rattle.ir_values.specs.Int.{IntValue}
use Rattle.ir_module.specs.Printable.{constant_fits}
use Rattle.printable_values.specs.Values.{value_prints}

-- a constant of the form that its type takes
abbrev pub ConstantsPrint : Type 0
ConstantsPrint = (u : Ty) (v : Value) → constant_fits u v ≡ true → value_prints v ≡ true

abbrev pub result_prints : Result IntValue Cause → Bool
result_prints (Ok i) = value_prints (value.Int i)
result_prints (Err why) = true

-- what operations and conversions give, whatever they are given
pub record ResultsPrint : Type 0 where
  pub binary : (o : BinOp) (flags : Flags) (i j : IntValue) → result_prints (binary_of o flags i j) ≡ true
  pub convert : (o : Conv) (i : IntValue) (to : Width) → value_prints (value.Int (convert_of o i to)) ≡ true
