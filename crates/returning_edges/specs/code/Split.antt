-- The graph whose edges are nodes of their own: behind the nodes stands one for each edge, in the order of the sources.
use Rattle.std.specs.Prelude.{ℕ, zero, suc, ◌+◌, Bool, false, List, [], ◌∷◌, ◌++◌, length, map, slice_get, if◌then◌else◌, Option, None, Some}
use Rattle.graph_cycles.specs.Cycles.{Graph, successors}

abbrev pub numbers_from : ℕ → ℕ → List ℕ
numbers_from n zero = []
numbers_from n (suc k) = n ∷ numbers_from (suc n) k

abbrev pub all_targets : Graph → List ℕ
all_targets [] = []
all_targets (vs ∷ g) = vs ++ all_targets g

-- for each node those of its edges, numbered from n
abbrev pub edge_lists : ℕ → Graph → Graph
edge_lists n [] = []
edge_lists n (vs ∷ g) = numbers_from n (length vs) ∷ edge_lists (n + length vs) g

abbrev pub singles : List ℕ → Graph
singles vs = map (λ v. v ∷ []) vs

abbrev pub split : Graph → Graph
split g = edge_lists (length g) g ++ singles (all_targets g)

abbrev pub or_not : Option Bool → Bool
or_not None = false
or_not (Some b) = b

abbrev pub mark : List Bool → ℕ → Bool
mark on e = or_not (slice_get on e)

-- the edge of this node from this source, where the node is marked
abbrev pub chosen_one : List Bool → Graph → ℕ → ℕ → List (ℕ × ℕ)
chosen_one on h u e = if mark on e then map (λ v. (u, v)) (successors h e) else []

-- those of some nodes of edges from this source
abbrev pub chosen : List Bool → Graph → ℕ → List ℕ → List (ℕ × ℕ)
chosen on h u [] = []
chosen on h u (e ∷ es) = chosen_one on h u e ++ chosen on h u es

-- those of so many sources, from u on
abbrev pub chosen_from : List Bool → Graph → ℕ → ℕ → List (ℕ × ℕ)
chosen_from on h u zero = []
chosen_from on h u (suc k) = chosen on h u (successors h u) ++ chosen_from on h (suc u) k
