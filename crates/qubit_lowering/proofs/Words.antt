-- A number of 64 bits in two's complement.
use Rattle.std.proofs.Common.{◌≡◌, ℕ, suc, ◌-◌, ◌*◌, ◌^◌, ◌<◌, ◌≤◌, refl, ap, ◌∙◌, arith}
use Rattle.std.specs.Prelude.{ℤ, pos, negsuc, ◌+ℤ◌, ◌-ℤ◌}
use Rattle.std.specs.Int.{int_rem_euclid}
use Rattle.std.specs.Int.RustNames.{FitsSigned, unsigned_abs}
use Rattle.std.proofs.lemmas.Bool.Decides.{nat_tests}
use Rattle.std.proofs.lemmas.Int.{ints, int_rem_euclid_is}
use Rattle.ir_values.specs.declared.int.Width.TheVariants.{W64}
use Rattle.ir_values.specs.Int.{IntValue, signed}
use mir.Syntax.{w64}
use Rattle.qubit_lowering.specs.Codes.{IsWord}

abbrev word : ℕ → IntValue
word bits = record { width = W64; bits = bits }

low : (n : ℕ) → n < 2 ^ 63 → signed (word n) ≡ pos n
low n lt = grind (arith, nat_tests)

high : (n : ℕ) → 2 ^ 63 ≤ n → signed (word n) ≡ pos n -ℤ pos (2 ^ 64)
high n le = grind (arith, nat_tests)

-- the number by its bits, which are it and so many times 2 ^ 64
bits-are : (z : ℤ) (k m : ℕ) → z +ℤ pos (k * 2 ^ 64) ≡ pos m → m < 2 ^ 64 → unsigned_abs (int_rem_euclid z (pos (2 ^ 64))) ≡ m
bits-are z k m e lt = ap unsigned_abs (int_rem_euclid_is z (pos (2 ^ 64)) (2 ^ 64) k m (omega arith) refl e) ∙ omega (arith, lt)

pub is_word : (z : ℤ) → FitsSigned w64 z → IsWord z
is_word (pos n) fits =
    let lt : n < 2 ^ 63 = omega (arith, ints, fits) in
    ap (λ b. signed (word b)) (bits-are (pos n) 0 n (omega (arith, ints)) (omega (arith, lt))) ∙ low n lt
is_word (negsuc k) fits =
    let lt : k < 2 ^ 63 = omega (arith, ints, fits) in
    ap (λ b. signed (word b)) (bits-are (negsuc k) 1 (2 ^ 64 - suc k) (omega (arith, ints, lt)) (omega (arith, lt)))
    ∙ high (2 ^ 64 - suc k) (omega (arith, lt)) ∙ omega (arith, ints, lt)
