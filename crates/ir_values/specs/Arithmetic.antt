-- What the instructions on integers give, over the whole numbers.
use Rattle.std.specs.Prelude.{ℕ, ◌+◌, ◌-◌, ◌%◌, ◌^◌, ◌==◌, ℤ, pos, ◌+ℤ◌, ◌-ℤ◌, ◌*ℤ◌, neg_ℤ, int_div, int_rem, bit_and, bit_or, bit_xor, Bool, true, false, ◌&&◌, ◌||◌, not, nat_lt, nat_le, if◌then◌else◌, Result, Ok, Err}
use Rattle.std.specs.Int.{int_rem_euclid, int_div_euclid}
use Rattle.std.specs.Int.RustNames.{unsigned_abs, int_lt, int_le}
use Rattle.ir_values.specs.declared.int.Width.{Width}
use Rattle.ir_values.specs.declared.int.BinOp.{BinOp}
use Rattle.ir_values.specs.declared.int.BinOp.TheVariants as op
use Rattle.ir_values.specs.declared.int.Flags.{Flags}
use Rattle.ir_values.specs.declared.cause.Cause.{Cause}
use Rattle.ir_values.specs.declared.cause.Cause.TheVariants.{DivZero, Overflow, Poison}
use Rattle.ir_values.specs.declared.int.Pred.{Pred}
use Rattle.ir_values.specs.declared.int.Pred.TheVariants as pred
use Rattle.ir_values.specs.declared.int.Conv.{Conv}
use Rattle.ir_values.specs.declared.int.Conv.TheVariants as conv
use Rattle.ir_values.specs.Width.{bits_of}
use Rattle.ir_values.specs.Int.{IntValue, signed}

-- its value as an unsigned number
abbrev pub unsigned : IntValue → ℤ
unsigned i = pos i.bits

-- the integer of this width that is z modulo 2 to the width
abbrev pub modulo : Width → ℤ → IntValue
modulo w z = record { width = w; bits = unsigned_abs (int_rem_euclid z (pos (2 ^ bits_of w))) }

-- whether a predicate holds (LLVM Language Reference, 'icmp Instruction')
unfoldable pub compare_of : Pred → IntValue → IntValue → Bool
compare_of pred.Eq a b = a.bits == b.bits
compare_of pred.Ne a b = not (a.bits == b.bits)
compare_of pred.Ugt a b = int_lt (unsigned b) (unsigned a)
compare_of pred.Uge a b = int_le (unsigned b) (unsigned a)
compare_of pred.Ult a b = int_lt (unsigned a) (unsigned b)
compare_of pred.Ule a b = int_le (unsigned a) (unsigned b)
compare_of pred.Sgt a b = int_lt (signed b) (signed a)
compare_of pred.Sge a b = int_le (signed b) (signed a)
compare_of pred.Slt a b = int_lt (signed a) (signed b)
compare_of pred.Sle a b = int_le (signed a) (signed b)

-- the integer of another width that is the unsigned or the signed value (LLVM Language Reference, 'Conversion Operations')
unfoldable pub convert_of : Conv → IntValue → Width → IntValue
convert_of conv.ZExt a to = modulo to (unsigned a)
convert_of conv.SExt a to = modulo to (signed a)
convert_of conv.Trunc a to = modulo to (unsigned a)

-- whether a conversion leads from one width to another: an extension to a wider one, a truncation to a narrower one
abbrev pub converts : Conv → Width → Width → Bool
converts conv.ZExt from to = nat_lt (bits_of from) (bits_of to)
converts conv.SExt from to = nat_lt (bits_of from) (bits_of to)
converts conv.Trunc from to = nat_lt (bits_of to) (bits_of from)

-- ---- binary operations (LLVM Language Reference, 'Binary Operations' and 'Bitwise Binary Operations')

-- the exact result, where `v` gives the value of an operand; a number of bits to shift by is unsigned
abbrev pub exact_by : (IntValue → ℤ) → BinOp → IntValue → IntValue → ℤ
exact_by v op.Add a b = v a +ℤ v b
exact_by v op.Sub a b = v a -ℤ v b
exact_by v op.Mul a b = v a *ℤ v b
exact_by v op.UDiv a b = int_div (v a) (v b)
exact_by v op.SDiv a b = int_div (v a) (v b)
exact_by v op.URem a b = int_rem (v a) (v b)
exact_by v op.SRem a b = int_rem (v a) (v b)
exact_by v op.Shl a b = v a *ℤ pos (2 ^ b.bits)
exact_by v op.LShr a b = int_div_euclid (v a) (pos (2 ^ b.bits))
exact_by v op.AShr a b = int_div_euclid (v a) (pos (2 ^ b.bits))
exact_by v op.And a b = pos (bit_and a.bits b.bits)
exact_by v op.Or a b = pos (bit_or a.bits b.bits)
exact_by v op.Xor a b = pos (bit_xor a.bits b.bits)

-- how an operation reads its operands; add, sub, mul and shl give the same bits for either reading
abbrev pub reading : BinOp → IntValue → ℤ
reading op.UDiv = unsigned
reading op.URem = unsigned
reading op.LShr = unsigned
reading other = signed

-- what a division or a shift to the right leaves over: the remainder, or the bits shifted out
abbrev pub left_over : BinOp → IntValue → IntValue → ℕ
left_over op.UDiv a b = a.bits % b.bits
left_over op.SDiv a b = unsigned_abs (int_rem (signed a) (signed b))
left_over op.LShr a b = a.bits % 2 ^ b.bits
left_over op.AShr a b = a.bits % 2 ^ b.bits
left_over other a b = 0

-- whether z is an unsigned value of the width
abbrev pub fits_unsigned : Width → ℤ → Bool
fits_unsigned w z = int_le (pos 0) z && int_lt z (pos (2 ^ bits_of w))

-- whether z is a signed value of the width
abbrev pub fits_signed : Width → ℤ → Bool
fits_signed w z = int_le (neg_ℤ (pos (2 ^ (bits_of w - 1)))) z && int_lt z (pos (2 ^ (bits_of w - 1)))

-- the operations on which `nuw` and `nsw` may stand
abbrev pub may_wrap : BinOp → Bool
may_wrap op.Add = true
may_wrap op.Sub = true
may_wrap op.Mul = true
may_wrap op.Shl = true
may_wrap other = false

-- the operations on which `exact` may stand
abbrev pub may_leave : BinOp → Bool
may_leave op.UDiv = true
may_leave op.SDiv = true
may_leave op.LShr = true
may_leave op.AShr = true
may_leave other = false

-- whether a flag that may stand on the operation is broken
abbrev pub breaks : BinOp → Flags → IntValue → IntValue → Bool
breaks o flags a b =
    if may_wrap o
    then (flags.nuw && not (fits_unsigned a.width (exact_by unsigned o a b)))
    || (flags.nsw && not (fits_signed a.width (exact_by signed o a b)))
    else if may_leave o then flags.exact && not (left_over o a b == 0)
    else false

-- whether the flags may stand on the operation
abbrev pub allows : BinOp → Flags → Bool
allows o flags = (may_wrap o || not (flags.nuw || flags.nsw)) && (may_leave o || not flags.exact)

abbrev pub divides_signed : BinOp → Bool
divides_signed op.SDiv = true
divides_signed op.SRem = true
divides_signed other = false

abbrev pub divides_unsigned : BinOp → Bool
divides_unsigned op.UDiv = true
divides_unsigned op.URem = true
divides_unsigned other = false

abbrev pub shifts : BinOp → Bool
shifts op.Shl = true
shifts op.LShr = true
shifts op.AShr = true
shifts other = false

-- the least signed value of its width
abbrev pub is_least : IntValue → Bool
is_least i = i.bits == 2 ^ (bits_of i.width - 1)

-- the signed value -1, all of whose bits are set
abbrev pub is_minus_one : IntValue → Bool
is_minus_one i = i.bits + 1 == 2 ^ bits_of i.width

-- the result of an operation modulo 2 to the width, or the cause that ends the run
unfoldable pub binary_of : BinOp → Flags → IntValue → IntValue → Result IntValue Cause
binary_of o flags a b =
    if (divides_unsigned o || divides_signed o) && (b.bits == 0) then Err DivZero
    else if divides_signed o && (is_least a && is_minus_one b) then Err Overflow
    else if shifts o && nat_le (bits_of a.width) b.bits then Err Poison
    else if breaks o flags a b then Err Poison
    else Ok (modulo a.width (exact_by (reading o) o a b))
