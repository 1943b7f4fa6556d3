-- The widths of results on integers.
use Rattle.std.proofs.Common.{◌≡◌, Bool, true, false, cond, ◌&&◌, ◌||◌, ◌==◌, Result, Ok, Err, refl}
use Rattle.std.specs.Prelude.{⊤, nat_le}
use Rattle.ir_values.specs.Arithmetic.{binary_of, convert_of, divides_unsigned, divides_signed, is_least, is_minus_one, shifts, breaks}
use Rattle.ir_values.specs.Width.{bits_of}
use Rattle.ir_values.specs.declared.int.BinOp.{BinOp}
use Rattle.ir_values.specs.declared.int.Conv.{Conv}
use Rattle.ir_values.specs.declared.int.Conv.TheVariants as conv
use Rattle.ir_values.specs.declared.int.Flags.{Flags}
use Rattle.ir_values.specs.declared.int.Width.{Width}
use Rattle.ir_values.specs.declared.cause.Cause.{Cause}
use Rattle.ir_values.specs.Int.{IntValue}

-- an integer of the width, or a cause
abbrev pub KeepsWidth : Width → Result IntValue Cause → Type 0
KeepsWidth w (Ok i) = i.width ≡ w
KeepsWidth w (Err why) = ⊤

by-test : (w : Width) (b : Bool) (x y : Result IntValue Cause) → KeepsWidth w x → KeepsWidth w y → KeepsWidth w (cond b x y)
by-test w true x y h i = h
by-test w false x y h i = i

pub binary-width : (o : BinOp) (flags : Flags) (a b : IntValue) → KeepsWidth a.width (binary_of o flags a b)
unfolding binary_of
binary-width o flags a b =
    by-test a.width ((divides_unsigned o || divides_signed o) && (b.bits == 0)) _ _ tt
    (by-test a.width (divides_signed o && (is_least a && is_minus_one b)) _ _ tt
    (by-test a.width (shifts o && nat_le (bits_of a.width) b.bits) _ _ tt (by-test a.width (breaks o flags a b) _ _ tt refl)))

pub convert-width : (c : Conv) (i : IntValue) (w : Width) → (convert_of c i w).width ≡ w
unfolding convert_of
convert-width conv.ZExt i w = refl
convert-width conv.SExt i w = refl
convert-width conv.Trunc i w = refl
