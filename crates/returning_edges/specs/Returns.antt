-- Edges that lead back: some walk leads from the edge's target to its source.
use Rattle.std.specs.Prelude.{◌↔◌, ℕ, ◌<◌, List, length, Contains}
use Rattle.graph_cycles.specs.Cycles.{Graph, successors, Reaches}

-- every edge leads to a node
abbrev pub IsClosed : Graph → Type 0
IsClosed g = (u v : ℕ) → Contains (successors g u) v → v < length g

-- exactly the edges that lead back, each a source and a target
abbrev pub AreReturning : Graph → List (ℕ × ℕ) → Type 0
AreReturning g edges = (u v : ℕ) → Contains edges (u, v) ↔ (Contains (successors g u) v × Reaches g v u)
