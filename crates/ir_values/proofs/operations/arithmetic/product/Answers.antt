use Rattle.std.proofs.Common.{◌-◌, ◌^◌, ◌*ℤ◌, arith}
use Rattle.std.specs.Int.{w128}
use Rattle.std.specs.Int.RustNames.{FitsSigned}
use Rattle.std.proofs.lemmas.Int.{fits_signed_from_abs, fits_signed_mul, to_z-of_z}
use Rattle.ir_values.proofs.operations.arithmetic.product.Goals as goal

pub overflow_mul-result : goal.overflow_mul-result
overflow_mul-result c =
    let fits : FitsSigned w128 (c.args.x *ℤ c.args.y) = fits_signed_mul w128 c.args.x c.args.y (2 ^ 64 - 1) (2 ^ 63) (omega (arith, c.requires.x)) c.requires.y (omega arith) in
    let x = to_z-of_z w128 c.args.x (fits_signed_from_abs w128 c.args.x (omega (arith, c.requires.x))) in
    let y = to_z-of_z w128 c.args.y (fits_signed_from_abs w128 c.args.y (omega (arith, c.requires.y))) in
    rw (x, y) fits

pub returns : goal.returns
returns c =
    let fits : FitsSigned w128 (c.args.x *ℤ c.args.y) = fits_signed_mul w128 c.args.x c.args.y (2 ^ 64 - 1) (2 ^ 63) (omega (arith, c.requires.x)) c.requires.y (omega arith) in
    let x = to_z-of_z w128 c.args.x (fits_signed_from_abs w128 c.args.x (omega (arith, c.requires.x))) in
    let y = to_z-of_z w128 c.args.y (fits_signed_from_abs w128 c.args.y (omega (arith, c.requires.y))) in
    rw (x, y) (to_z-of_z w128 (c.args.x *ℤ c.args.y) fits)
