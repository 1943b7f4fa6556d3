-- Walks through a directed graph, and its cycles.
use Rattle.std.specs.Prelude.{◌≡◌, ◌↔◌, ℕ, ◌<◌, true, Bool, List, [], ◌∷◌, length, slice_get, Contains, Option, None, Some}

-- for each node the nodes that its edges lead to
abbrev pub Graph : Type 0
Graph = List (List ℕ)

abbrev pub list_or_none : Option (List ℕ) → List ℕ
list_or_none None = []
list_or_none (Some vs) = vs

abbrev pub successors : Graph → ℕ → List ℕ
successors g u = list_or_none (slice_get g u)

-- from u over these nodes to v: each is a successor of the one before, and the last is v
abbrev pub IsWalk : Graph → ℕ → List ℕ → ℕ → Type 0
IsWalk g u [] v = u ≡ v
IsWalk g u (w ∷ ws) v = Contains (successors g u) w × IsWalk g w ws v

-- some walk, which may be empty, leads from u to v
pub record Reaches (g : Graph) (u v : ℕ) : Type 0 where
  pub walk : List ℕ
  pub is : IsWalk g u walk v

-- some walk that is not empty leads from u to v
pub record LeadsTo (g : Graph) (u v : ℕ) : Type 0 where
  pub first : ℕ
  pub edge : Contains (successors g u) first
  pub rest : Reaches g first v

-- the node lies on a cycle
abbrev pub IsOnCycle : Graph → ℕ → Type 0
IsOnCycle g u = LeadsTo g u u

-- for each node whether it lies on a cycle
pub record TellsCycles (g : Graph) (on : List Bool) : Type 0 where
  pub sized : length on ≡ length g
  pub exact : (i : ℕ) → i < length g → (slice_get on i ≡ Some true) ↔ IsOnCycle g i
