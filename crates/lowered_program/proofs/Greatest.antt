-- The greater of numbers.
use Rattle.std.proofs.Common.{◌≡◌, ℕ, arith}
use Rattle.std.proofs.lemmas.Bool.Decides.{nat_tests}
use Rattle.lowered_program.specs.Residues.{greater}

-- than 0
pub greater_first : (a : ℕ) → a ≡ greater 0 a
greater_first a = grind (arith, nat_tests)

pub greater_last : (a : ℕ) → greater a 0 ≡ a
greater_last a = grind (arith, nat_tests)

-- of three
pub greater_next : (a b c : ℕ) → greater a (greater b c) ≡ greater (greater a b) c
greater_next a b c = grind (arith, nat_tests)
