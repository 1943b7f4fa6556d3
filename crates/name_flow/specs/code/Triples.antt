-- Lists of triples in ascending order.
use Rattle.std.specs.Prelude.{◌≡◌, ℕ, ◌<◌, ◌≤◌, ◌==◌, ◌&&◌, nat_le, Bool, true, false, List, find, Option, None, Some}
use Rattle.std.specs.Option.{option_map}
use Rattle.std.specs.Ordering.{ordering_then, nat_cmp, is_lt}
use Rattle.std.specs.declared.cmp.Ordering.{Ordering}
use Rattle.std.specs.List.Sorted.{IsSorted, IsPermutation}

abbrev pub Triple : Type 0
Triple = ℕ × ℕ × ℕ

abbrev pub triple_cmp : Triple → Triple → Ordering
triple_cmp t u = ordering_then (ordering_then (nat_cmp t.0 u.0) (nat_cmp t.1 u.1)) (nat_cmp t.2 u.2)

abbrev pub is_below : ℕ → ℕ → ℕ → Triple → Bool
is_below a b c t = is_lt (triple_cmp t (a, b, c))

-- the triple is of a and b, and its number is at least c
abbrev pub is_from : ℕ → ℕ → ℕ → Triple → Bool
is_from a b c t = t.0 == a && t.1 == b && nat_le c t.2

-- the least number from c on of a triple of a and b, where the list ascends
abbrev pub next : List Triple → ℕ → ℕ → ℕ → Option ℕ
next ts a b c = option_map (λ t. t.2) (find (is_from a b c) ts)

abbrev pub is_number : Option ℕ → ℕ → Bool
is_number None c = false
is_number (Some n) c = n == c

abbrev pub Ascends : List Triple → Type 0
Ascends ts = IsSorted triple_cmp ts

-- the list has a triple of a and b with this number
abbrev pub holds : List Triple → ℕ → ℕ → ℕ → Bool
holds ts a b c = is_number (next ts a b c) c

-- what next answers: the least number from c on that is held
abbrev pub NextHolds : List Triple → ℕ → ℕ → ℕ → Option ℕ → Type 0
NextHolds ts a b c None = (k : ℕ) → c ≤ k → holds ts a b k ≡ false
NextHolds ts a b c (Some n) = (c ≤ n) × (holds ts a b n ≡ true) × ((k : ℕ) → c ≤ k → k < n → holds ts a b k ≡ false)

-- the number is there, and no number of the second list's is below it
abbrev pub is_first : Option ℕ → Option ℕ → Bool
is_first None defined = false
is_first (Some i) None = true
is_first (Some i) (Some j) = nat_le i j

-- the second list has the triples of the first in order
pub record Sorts (ts us : List Triple) : Type 0 where
  pub same : IsPermutation ts us
  pub ascends : Ascends us
