-- Sets of pairs as lists.
use Rattle.std.specs.Prelude.{ℕ, ◌&&◌, nat_eq, Bool, false, if◌then◌else◌, List, [], ◌∷◌, ◌++◌}
use Rattle.std.specs.List.{list_any}

abbrev pub same_pair : ℕ × ℕ → ℕ × ℕ → Bool
same_pair p q = nat_eq p.0 q.0 && nat_eq p.1 q.1

abbrev pub holds : List (ℕ × ℕ) → ℕ × ℕ → Bool
holds pairs p = list_any (same_pair p) pairs

abbrev pub with_pair : List (ℕ × ℕ) → ℕ × ℕ → List (ℕ × ℕ)
with_pair pairs p = if holds pairs p then pairs else pairs ++ p ∷ []

-- the call that a step makes is one of the pairs of caller and callee
abbrev pub returns_by : List (ℕ × ℕ) → ℕ → List ℕ → Bool
returns_by pairs u [] = false
returns_by pairs u (g ∷ gs) = holds pairs (u, g)
