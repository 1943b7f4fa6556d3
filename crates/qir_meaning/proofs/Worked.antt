-- Integer instructions on worked values.
use Rattle.std.specs.Prelude.{ℕ, ◌≡◌, refl, true, false, Option, [], ◌∷◌}
use Rattle.ir_module.specs.declared.places.Point.{Point}
use Rattle.ir_module.specs.declared.tree.InstKind.TheVariants as kind
use Rattle.ir_module.specs.declared.tree.Module.{Module}
use Rattle.ir_module.specs.declared.tree.Operand.{Operand}
use Rattle.ir_values.specs.Arithmetic.{binary_of, compare_of, convert_of}
use Rattle.ir_values.specs.declared.int.BinOp.{BinOp}
use Rattle.ir_values.specs.declared.int.BinOp.TheVariants as op
use Rattle.ir_values.specs.declared.int.Conv.{Conv}
use Rattle.ir_values.specs.declared.int.Conv.TheVariants as conv
use Rattle.ir_values.specs.declared.int.Flags.{Flags}
use Rattle.ir_values.specs.declared.int.Pred.{Pred}
use Rattle.ir_values.specs.declared.int.Pred.TheVariants as pred
use Rattle.ir_values.specs.declared.int.Width.{Width}
use Rattle.ir_values.specs.declared.int.Width.TheVariants.{W1, W8, W16}
use Rattle.ir_values.specs.declared.ty.Ty.TheVariants as ty
use Rattle.ir_values.specs.declared.cause.Cause.{Cause}
use Rattle.ir_values.specs.declared.cause.Cause.TheVariants.{DivZero, Overflow, Poison}
use Rattle.ir_values.specs.declared.ids.LocalId.{LocalId}
use Rattle.ir_values.specs.declared.value.Value.{Value}
use Rattle.ir_values.specs.declared.value.Value.TheVariants as value
use Rattle.qir_meaning.specs.Effects.{gives}
use Rattle.qir_meaning.specs.Moves.{performs}
use Rattle.qir_meaning.specs.State.{Env, State, Trap, Move, Halt, Stuck}

abbrev plain : Flags
plain = record { nuw = false; nsw = false; exact = false }

abbrev nuw : Flags
nuw = record { nuw = true; nsw = false; exact = false }

abbrev nsw : Flags
nsw = record { nuw = false; nsw = true; exact = false }

abbrev exact : Flags
exact = record { nuw = false; nsw = false; exact = true }

abbrev int : Width → ℕ → Value
int w n = value.Int (record { width = w; bits = n })

module _ (m : Module) (p : Point) (env : Env) (st : State) (x : Option LocalId) (w : Width) (a b : Operand) where
  abbrev binary : BinOp → Flags → Value → Value → Move
  binary o flags i j = performs m p env st x (kind.Binary o flags (ty.Int w) a b) (i ∷ j ∷ [])

  abbrev compare : Pred → Value → Value → Move
  compare o i j = performs m p env st x (kind.Icmp o (ty.Int w) a b) (i ∷ j ∷ [])

  abbrev convert : Conv → Value → Width → Move
  convert o i to = performs m p env st x (kind.Convert o (ty.Int w) a (ty.Int to)) (i ∷ [])

  abbrev becomes : Value → Move
  becomes v = gives p env x st v st

  abbrev traps : Cause → Move
  traps why = Halt (Trap why) st

  sums_wrap : binary op.Add plain (int W8 200) (int W8 100) ≡ becomes (int W8 44)
  unfolding binary_of
  sums_wrap = refl

  sums_that_break_a_flag : binary op.Add nuw (int W8 200) (int W8 100) ≡ traps Poison
  unfolding binary_of
  sums_that_break_a_flag = refl

  signed_sums_that_break_a_flag : binary op.Add nsw (int W8 100) (int W8 100) ≡ traps Poison
  unfolding binary_of
  signed_sums_that_break_a_flag = refl

  -- -56 and 100 are 44
  signed_sums_that_keep_it : binary op.Add nsw (int W8 200) (int W8 100) ≡ becomes (int W8 44)
  unfolding binary_of
  signed_sums_that_keep_it = refl

  -- -7 by 2 is -3, and leaves -1
  quotients_toward_zero : binary op.SDiv plain (int W8 249) (int W8 2) ≡ becomes (int W8 253)
  unfolding binary_of
  quotients_toward_zero = refl

  remainders_like_the_dividend : binary op.SRem plain (int W8 249) (int W8 2) ≡ becomes (int W8 255)
  unfolding binary_of
  remainders_like_the_dividend = refl

  quotients_that_leave_some : binary op.UDiv exact (int W8 7) (int W8 2) ≡ traps Poison
  unfolding binary_of
  quotients_that_leave_some = refl

  division_by_zero : binary op.UDiv plain (int W8 7) (int W8 0) ≡ traps DivZero
  unfolding binary_of
  division_by_zero = refl

  division_of_the_least : binary op.SDiv plain (int W8 128) (int W8 255) ≡ traps Overflow
  unfolding binary_of
  division_of_the_least = refl

  shifts_by_less_than_the_width : binary op.Shl plain (int W16 1) (int W16 15) ≡ becomes (int W16 32768)
  unfolding binary_of
  shifts_by_less_than_the_width = refl

  shifts_by_the_width : binary op.Shl plain (int W16 1) (int W16 16) ≡ traps Poison
  unfolding binary_of
  shifts_by_the_width = refl

  shifts_of_the_sign : binary op.AShr plain (int W8 129) (int W8 1) ≡ becomes (int W8 192)
  unfolding binary_of
  shifts_of_the_sign = refl

  mistyped_operands : binary op.Add plain (int W8 1) value.One ≡ Stuck
  unfolding binary_of
  mistyped_operands = refl

  signed_order : compare pred.Slt (int W8 255) (int W8 0) ≡ becomes (int W1 1)
  unfolding compare_of
  signed_order = refl

  unsigned_order : compare pred.Ult (int W8 255) (int W8 0) ≡ becomes (int W1 0)
  unfolding compare_of
  unsigned_order = refl

  extension_by_zeros : convert conv.ZExt (int W8 255) W16 ≡ becomes (int W16 255)
  unfolding convert_of
  extension_by_zeros = refl

  extension_by_the_sign : convert conv.SExt (int W8 255) W16 ≡ becomes (int W16 65535)
  unfolding convert_of
  extension_by_the_sign = refl

  truncation : convert conv.Trunc (int W16 511) W8 ≡ becomes (int W8 255)
  unfolding convert_of
  truncation = refl
