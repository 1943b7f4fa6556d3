-- Counts that stand still at the last value of a u64.
use Rattle.std.specs.Prelude.{ℕ, ◌+◌, ◌-◌, ◌^◌, ◌≤◌, min}

-- one more, or still that last value
abbrev pub one_more : ℕ → ℕ
one_more count = min (count + 1) (2 ^ 64 - 1)

-- the count rose, or it stands at that last value
abbrev pub Rose : ℕ → ℕ → Type 0
Rose before now = one_more before ≤ now
