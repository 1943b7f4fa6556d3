use Rattle.std.proofs.Common.{◌∙◌, arith, rules, int_div}
use Rattle.std.specs.Int.{w128}
use Rattle.std.specs.Int.RustNames.{FitsSigned}
use Rattle.std.proofs.lemmas.Int.{fits_signed_from_abs, quot_is}
use Rattle.ir_values.proofs.operations.division.quotient.Goals as goal

pub returns : goal.returns
returns c =
    let x = c.signed_value.result in
    let y = c.signed_value-2.result in
    let fx : FitsSigned w128 c.signed_value.result = fits_signed_from_abs w128 c.signed_value.result (omega (arith, c.signed_value.ensures.range)) in
    let fy : FitsSigned w128 c.signed_value-2.result = fits_signed_from_abs w128 c.signed_value-2.result (omega (arith, c.signed_value-2.ensures.range)) in
    let fq : FitsSigned w128 (int_div c.signed_value.result c.signed_value-2.result) = search rules in
    let e = quot_is w128 c.signed_value.result c.signed_value-2.result fx fy fq in
    e ∙ rw (c.signed_value.ensures.value, c.signed_value-2.ensures.value)
