-- Equal values, and which integer instructions work bit by bit.
use Rattle.std.specs.Prelude.{ℕ, ◌==◌, ◌&&◌, Bool, true, false}
use Rattle.ir_values.specs.declared.int.BinOp.{BinOp}
use Rattle.ir_values.specs.declared.int.BinOp.TheVariants as op
use Rattle.ir_values.specs.declared.int.Width.{Width}
use Rattle.ir_values.specs.declared.int.Width.TheVariants.{W1, W8, W16, W32, W64}
use Rattle.ir_values.specs.declared.value.Value.{Value}
use Rattle.ir_values.specs.declared.value.Value.TheVariants as value
use Rattle.ir_values.specs.Calls.{same_text}
use Rattle.ir_values.specs.Int.{IntValue}
use Rattle.ir_values.specs.Width.{bits_of}

abbrev pub same_width : Width → Width → Bool
same_width w v = bits_of w == bits_of v

abbrev pub same_int : IntValue → IntValue → Bool
same_int i j = same_width i.width j.width && i.bits == j.bits

-- two values are one
abbrev pub same_value : Value → Value → Bool
same_value (value.Int i) (value.Int j) = same_int i j
same_value (value.Double a) (value.Double b) = same_text a b
same_value (value.Id i) (value.Id j) = i == j
same_value (value.Alloc i) (value.Alloc j) = i == j
same_value (value.Measured i) (value.Measured j) = i == j
same_value value.One value.One = true
same_value value.Zero value.Zero = true
same_value (value.Label a) (value.Label b) = a.0 == b.0
same_value value.NoLabel value.NoLabel = true
same_value (value.Func f) (value.Func g) = f.0 == g.0
same_value v u = false

-- one bit wide
abbrev pub is_bit : Width → Bool
is_bit W1 = true
is_bit W8 = false
is_bit W16 = false
is_bit W32 = false
is_bit W64 = false

-- an operation on each bit by itself
abbrev pub is_bitwise : BinOp → Bool
is_bitwise op.And = true
is_bitwise op.Or = true
is_bitwise op.Xor = true
is_bitwise other = false
