-- Openings: the first simple paths, in path order, that lead to a new node each.
use Rattle.std.specs.Prelude.{◌≡◌, ℕ, ◌<◌, ◌≤◌, ◌⊎◌, Some, List, [], ◌∷◌, ◌++◌, length, slice_get, Contains}
use Rattle.path_search.specs.Paths.{Search, IsEnd, IsBefore, IsSimple}

-- some path of the list leads to g, and is q or before it
pub record IsFound {N K : Type 0} (s : Search N K) (ps : List (List ℕ)) (q : List ℕ) (g : N) : Type 0 where
  pub path : List ℕ
  pub listed : Contains ps path
  pub ends : IsEnd s path g
  pub upto : (path ≡ q) ⊎ IsBefore path q

-- each path of the list is before those that follow it
abbrev pub IsAscending : List (List ℕ) → Type 0
IsAscending ps = (i j : ℕ) (p q : List ℕ) → i < j → slice_get ps i ≡ Some p → slice_get ps j ≡ Some q → IsBefore p q

abbrev pub IsLast : List (List ℕ) → List ℕ → Type 0
IsLast ps p = (front : List (List ℕ)) × (ps ≡ front ++ p ∷ [])

-- simple paths in path order, to distinct nodes, such that each simple path that is not after the last leads to a node that one of
-- them found
pub record Opening {N K : Type 0} (s : Search N K) (ps : List (List ℕ)) : Type 0 where
  pub simple : (p : List ℕ) → Contains ps p → (g : N) × IsSimple s p g
  pub ordered : IsAscending ps
  pub distinct : (p q : List ℕ) (g : N) → Contains ps p → Contains ps q → IsEnd s p g → IsEnd s q g → p ≡ q
  pub covers : (last q : List ℕ) (g : N) → IsLast ps last → IsSimple s q g → (IsBefore last q → ⊥) → IsFound s ps q g

-- nodes are the ends of the longest opening, in its order
pub record ListsAll {N K : Type 0} (s : Search N K) (nodes : List N) : Type 0 where
  pub paths : List (List ℕ)
  pub opening : Opening s paths
  pub number : length nodes ≡ length paths
  pub ends : (i : ℕ) (p : List ℕ) (g : N) → slice_get paths i ≡ Some p → slice_get nodes i ≡ Some g → IsEnd s p g
  pub longest : (qs : List (List ℕ)) → Opening s qs → length qs ≤ length paths
