-- Allocations that are held.
use Rattle.std.proofs.Common.{ℕ, ◌+◌, ◌<◌, ◌≤◌, Bool, true, false, cond, List, [], ◌∷◌, ◌++◌, arith}
use Rattle.std.specs.Prelude.{◌==◌, not}
use Rattle.static_steps.specs.Configurations.{HoldsBelow, NumbersRise, NumbersRiseFrom}
use Rattle.static_steps.specs.Results.{without}

pub below-later : (n k : ℕ) (js : List ℕ) → n ≤ k → HoldsBelow n js → HoldsBelow k js
below-later n k [] le h = tt
below-later n k (j ∷ js) le h = (let lt = h.0 in omega (arith, le, lt), below-later n k js le h.1)

-- the next allocation is held too
pub next-below : (n : ℕ) (js : List ℕ) → HoldsBelow n js → HoldsBelow (n + 1) (js ++ n ∷ [])
next-below n [] h = (omega arith, tt)
next-below n (j ∷ js) h = (let lt = h.0 in omega (arith, lt), next-below n js h.1)

next-from : (i n : ℕ) (js : List ℕ) → i < n → HoldsBelow n js → NumbersRiseFrom i js → NumbersRiseFrom i (js ++ n ∷ [])
next-from i n [] lt h r = (lt, tt)
next-from i n (j ∷ js) lt h r = (r.0, next-from j n js h.0 h.1 r.1)

pub next-rises : (n : ℕ) (js : List ℕ) → HoldsBelow n js → NumbersRise js → NumbersRise (js ++ n ∷ [])
next-rises n [] h r = tt
next-rises n (j ∷ js) h r = next-from j n js h.0 h.1 r

-- without one of them
pub without-below : (n j : ℕ) (js : List ℕ) → HoldsBelow n js → HoldsBelow n (without js j)
without-below n j [] h = tt
without-below n j (i ∷ js) h = by-test (without-below n j js h.1) (i == j)
  where
    by-test : HoldsBelow n (without js j) → (b : Bool) → HoldsBelow n (cond (not b) (i ∷ without js j) (without js j))
    by-test ih true = ih
    by-test ih false = (h.0, ih)

lower : (i n : ℕ) (js : List ℕ) → i ≤ n → NumbersRiseFrom n js → NumbersRiseFrom i js
lower i n [] le h = tt
lower i n (j ∷ js) le h = (let lt = h.0 in omega (arith, le, lt), h.1)

behind : (n : ℕ) (js : List ℕ) → NumbersRiseFrom n js → NumbersRise js
behind n [] h = tt
behind n (j ∷ js) h = h.1

without-from : (n j : ℕ) (js : List ℕ) → NumbersRiseFrom n js → NumbersRiseFrom n (without js j)
without-from n j [] h = tt
without-from n j (i ∷ js) h = by-test (without-from i j js h.1) (i == j)
  where
    by-test : NumbersRiseFrom i (without js j) → (b : Bool) → NumbersRiseFrom n (cond (not b) (i ∷ without js j) (without js j))
    by-test ih true = lower n i (without js j) (let lt = h.0 in omega (arith, lt)) ih
    by-test ih false = (h.0, ih)

pub without-rises : (j : ℕ) (js : List ℕ) → NumbersRise js → NumbersRise (without js j)
without-rises j [] h = tt
without-rises j (i ∷ js) h = by-test (without-from i j js h) (i == j)
  where
    by-test : NumbersRiseFrom i (without js j) → (b : Bool) → NumbersRise (cond (not b) (i ∷ without js j) (without js j))
    by-test ih true = behind i (without js j) ih
    by-test ih false = ih
