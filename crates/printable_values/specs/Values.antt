-- Known values, and the items that hold them, that can be printed.
use Rattle.std.specs.Prelude.{◌^◌, nat_lt, Bool, true}
use Rattle.ir_values.specs.declared.value.Value.{Value}
use Rattle.ir_values.specs.declared.value.Value.TheVariants as value
use Rattle.ir_values.specs.Double.{is_double}
use Rattle.ir_values.specs.Width.{bits_of}
use Rattle.ir_module.specs.Printable.{are_bytes}
use Rattle.kept_items.specs.declared.item.Item.{Item}
use Rattle.kept_items.specs.declared.item.Item.TheVariants as item
use Rattle.kept_items.specs.declared.val.Val.{Val}
use Rattle.kept_items.specs.declared.val.Val.TheVariants.{Known, Dynamic}

-- an integer within its width, the spelling of a double (LLVM Language Reference, 'Simple Constants'), a number below 2 to the 64
abbrev pub value_prints : Value → Bool
value_prints (value.Int i) = nat_lt i.bits (2 ^ bits_of i.width)
value_prints (value.Double spelling) = is_double spelling
value_prints (value.Id n) = nat_lt n (2 ^ 64)
value_prints v = true

-- a Dynamic value is printed as a name
abbrev pub val_prints : Val → Bool
val_prints (Known v) = value_prints v
val_prints (Dynamic d) = true

-- the name of an operation is of bytes
abbrev pub name_prints : Item → Bool
name_prints (item.Operation name args) = are_bytes name
name_prints x = true
