-- A graph whose edges are nodes of their own.
use Rattle.std.specs.Prelude.{◌≡◌, ◌↔◌, ℕ, ◌<◌, ◌≤◌, Contains}
use Rattle.graph_cycles.specs.Cycles.{Graph, successors, Reaches, IsOnCycle}

-- h has the nodes of g, which are those below n, and from n on a node for each edge of g: each node leads to the
-- nodes of its edges, and the node of an edge to the edge's target
pub record IsSplit (g h : Graph) (n : ℕ) (source target : ℕ → ℕ) : Type 0 where
  pub from_node : (u e : ℕ) → u < n → Contains (successors h u) e → (n ≤ e) × (source e ≡ u) × Contains (successors g u) (target e)
  pub to_edge : (u v : ℕ) → u < n → Contains (successors g u) v
      → (e : ℕ) × (n ≤ e) × Contains (successors h u) e × Contains (successors h e) v
  pub from_edge : (e v : ℕ) → n ≤ e → Contains (successors h e) v → (v ≡ target e) × (v < n)

-- the node of the edge e from u to v lies on a cycle exactly where v reaches u
abbrev pub LeadsBack : Type 0
LeadsBack = (g h : Graph) (n : ℕ) (source target : ℕ → ℕ) → IsSplit g h n source target
    → (u e v : ℕ) → u < n → Contains (successors h u) e → Contains (successors h e) v → IsOnCycle h e ↔ Reaches g v u
