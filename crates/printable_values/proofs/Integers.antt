-- Integers are within their widths.
use Rattle.std.proofs.Common.{◌≡◌, ℕ, ◌-◌, ◌%◌, ◌^◌, ◌<◌, Bool, true, false, ℤ, pos, negsuc, Result, Ok, Err, refl, ap, ◌∙◌, arith}
use Rattle.std.proofs.lemmas.Bool.{and_parts}
use Rattle.std.specs.Prelude.{◌==◌, ◌&&◌, ◌||◌, if◌then◌else◌, nat_le, nat_lt}
use Rattle.ir_values.specs.declared.cause.Cause.{Cause}
use Rattle.ir_values.specs.declared.cause.Cause.TheVariants.{DivZero, Overflow, Poison}
use Rattle.ir_values.specs.declared.int.BinOp.{BinOp}
use Rattle.ir_values.specs.declared.int.Conv.{Conv}
use Rattle.ir_values.specs.declared.int.Conv.TheVariants as conv
use Rattle.ir_values.specs.declared.int.Flags.{Flags}
use Rattle.ir_values.specs.declared.int.Width.{Width}
use Rattle.ir_values.specs.declared.int.Width.TheVariants.{W1, W8, W16, W32, W64}
use Rattle.ir_values.specs.declared.ty.Ty.{Ty}
use Rattle.ir_values.specs.declared.ty.Ty.TheVariants as ty
use Rattle.ir_values.specs.declared.value.Value.{Value}
use Rattle.ir_values.specs.declared.value.Value.TheVariants as value
use Rattle.ir_values.specs.Arithmetic.{binary_of, breaks, convert_of, divides_signed, divides_unsigned, exact_by, is_least, is_minus_one, modulo, reading, shifts, unsigned}
use Rattle.ir_values.specs.Int.{IntValue, signed}
use Rattle.ir_values.specs.Width.{bits_of}
use Rattle.ir_module.specs.Printable.{constant_fits}
use Rattle.printable_values.specs.Laws.{result_prints}
use Rattle.printable_values.specs.Values.{value_prints}

-- ---- numbers modulo 2 to a width

remainder-below : (n a : ℕ) → 0 < n → nat_lt (a % n) n ≡ true
remainder-below n a h = grind arith

from-end-below : (n a : ℕ) → 0 < n → nat_lt (n - 1 - a) n ≡ true
from-end-below n a h = grind arith

some-bits : (w : Width) → 0 < 2 ^ bits_of w
some-bits W1 = omega arith
some-bits W8 = omega arith
some-bits W16 = omega arith
some-bits W32 = omega arith
some-bits W64 = omega arith

pub modulo-prints : (w : Width) (z : ℤ) → value_prints (value.Int (modulo w z)) ≡ true
modulo-prints w (pos a) = remainder-below (2 ^ bits_of w) a (some-bits w)
modulo-prints w (negsuc a) = from-end-below (2 ^ bits_of w) (a % 2 ^ bits_of w) (some-bits w)

-- ---- instructions

either : (b : Bool) (x y : Result IntValue Cause) → result_prints x ≡ true → result_prints y ≡ true → result_prints (if b then x else y) ≡ true
either true x y h g = h
either false x y h g = g

pub binary-prints : (o : BinOp) (flags : Flags) (i j : IntValue) → result_prints (binary_of o flags i j) ≡ true
unfolding binary_of
binary-prints o flags i j =
    let whole : Result IntValue Cause = Ok (modulo i.width (exact_by (reading o) o i j)) in
    let unbroken : Result IntValue Cause = if breaks o flags i j then Err Poison else whole in
    let shifted : Result IntValue Cause = if shifts o && nat_le (bits_of i.width) j.bits then Err Poison else unbroken in
    let fitting : Result IntValue Cause = if divides_signed o && (is_least i && is_minus_one j) then Err Overflow else shifted in
    either ((divides_unsigned o || divides_signed o) && (j.bits == 0)) (Err DivZero) fitting refl
    (either (divides_signed o && (is_least i && is_minus_one j)) (Err Overflow) shifted refl
    (either (shifts o && nat_le (bits_of i.width) j.bits) (Err Poison) unbroken refl
    (either (breaks o flags i j) (Err Poison) whole refl (modulo-prints i.width (exact_by (reading o) o i j)))))

pub convert-prints : (o : Conv) (i : IntValue) (to : Width) → value_prints (value.Int (convert_of o i to)) ≡ true
unfolding convert_of
convert-prints conv.ZExt i to = modulo-prints to (unsigned i)
convert-prints conv.SExt i to = modulo-prints to (signed i)
convert-prints conv.Trunc i to = modulo-prints to (unsigned i)

-- ---- constants

same-numbers : (a b : ℕ) → (a == b) ≡ true → a ≡ b
same-numbers a b e = grind arith

pub constant-prints : (u : Ty) (v : Value) → constant_fits u v ≡ true → value_prints v ≡ true
constant-prints (ty.Int w) (value.Int i) h =
    let p = and_parts (bits_of i.width == bits_of w) (nat_lt i.bits (2 ^ bits_of w)) h in
    ap (λ b. nat_lt i.bits (2 ^ b)) (same-numbers (bits_of i.width) (bits_of w) p.0) ∙ p.1
constant-prints ty.Double (value.Double spelling) h = h
constant-prints ty.Qubit (value.Id n) h = h
constant-prints ty.Res (value.Id n) h = h
constant-prints ty.Text (value.Label g) h = refl
constant-prints ty.Text value.NoLabel h = refl
constant-prints (ty.Func us) (value.Func g) h = refl
constant-prints u v h = cc
