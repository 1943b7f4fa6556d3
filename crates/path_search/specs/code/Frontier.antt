-- What a visit has found up to a position, the path of choices that it tries next.
use Rattle.std.specs.Prelude.{◌≡◌, ℕ, ◌≤◌, List, length, Contains}
use Rattle.path_search.specs.Paths.{Bad, Search, IsEnd, IsBefore, IsSimple}
use Rattle.path_search.specs.Openings.{IsFound, IsAscending}
use Rattle.path_search.specs.Verdict.{IsBack}

-- ps are the least simple paths before pos, in order, to all nodes to which such a path leads
pub record Frontier {N K : Type 0} (s : Search N K) (pos : List ℕ) (ps : List (List ℕ)) : Type 0 where
  pub simple : (p : List ℕ) → Contains ps p → (g : N) × IsSimple s p g
  pub ordered : IsAscending ps
  pub distinct : (p q : List ℕ) (g : N) → Contains ps p → Contains ps q → IsEnd s p g → IsEnd s q g → p ≡ q
  pub below : (p : List ℕ) → Contains ps p → IsBefore p pos
  pub covers : (q : List ℕ) (g : N) → IsSimple s q g → IsBefore q pos → IsFound s ps q g

-- the nodes found so far are no candidates
pub record Checked {N K : Type 0} (s : Search N K) (ps : List (List ℕ)) : Type 0 where
  pub budget : length ps ≤ s.budget
  pub good : (p : List ℕ) (g : N) (k : K) → Contains ps p → IsEnd s p g → s.turn g ≡ Bad k → ⊥
  pub straight : (p : List ℕ) (g : N) → Contains ps p → IsEnd s p g → IsBack s p g → ⊥
