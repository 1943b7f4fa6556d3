-- Powers of two.
use Rattle.std.proofs.Common.{lit≤, sym, subst, ◌≡◌, ℕ, ◌+◌, ◌-◌, ◌*◌, ◌%◌, ◌^◌, ◌<◌, ◌≤◌, true, false, arith}
use Rattle.std.specs.Prelude.{nat_le}
use Rattle.std.proofs.Math.Nat.{pow-le-pow_right}
use Rattle.std.proofs.lemmas.Bool.{lt-leb}
use Rattle.std.proofs.lemmas.Nat.{one_shl}

pub shifted : (k : ℕ) → k < 128 → (1 * 2 ^ k) % 2 ^ 128 ≡ 2 ^ k
shifted k h = one_shl k 128 h

-- no number of 128 bits has a bit above them
pub above : (width bits : ℕ) → 128 < width → bits < 2 ^ 128 → nat_le (2 ^ (width - 1)) bits ≡ false
above width bits h k =
    let most : 2 ^ 128 ≤ 2 ^ (width - 1) = (let up : 128 ≤ width - 1 = omega arith in pow-le-pow_right {n = 2} (lit≤ tt) up) in
    lt-leb (2 ^ (width - 1)) bits (omega arith)

-- at 128 bits
pub topmost : (width bits : ℕ) → 128 ≤ width → width ≤ 128 → nat_le (2 ^ (width - 1)) bits ≡ true → bits < 2 ^ 128 → 2 ^ 128 - 1 - bits + 1 ≡ 2 ^ width - bits
topmost width bits low high h k =
    let same : width ≡ 128 = omega arith in
    subst (λ w. 2 ^ 128 - 1 - bits + 1 ≡ 2 ^ w - bits) (sym same) (omega arith)
