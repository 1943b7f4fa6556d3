-- Laws of searches.
use Rattle.std.specs.Prelude.{◌≡◌, ◌⊎◌, ℕ, false, Some, List, map, slice_get}
use Rattle.graph_cycles.specs.Cycles.{Graph, IsOnCycle}
use Rattle.path_search.specs.declared.node.Visited.{Visited}
use Rattle.path_search.specs.declared.visit.Link.{Link}
use Rattle.path_search.specs.Explored.{LeadsTo}
use Rattle.path_search.specs.Paths.{IsEnd, Search, successors}
use Rattle.path_search.specs.Openings.{ListsAll}
use Rattle.path_search.specs.Verdict.{Accepts, Refuses}
use Rattle.path_search.specs.declared.reason.Reason.{Reason}

-- it is accepted, and these are its nodes in path order, all to which a path leads
pub record IsAccepted {N K : Type 0} (s : Search N K) : Type 0 where
  pub accepts : Accepts s
  pub nodes : List N
  pub lists : ListsAll s nodes
  pub every : (p : List ℕ) (g : N) → IsEnd s p g → (i : ℕ) × (slice_get nodes i ≡ Some g)

-- it is refused at this node for this reason
pub record IsRefused {N K : Type 0} (s : Search N K) : Type 0 where
  pub at : N
  pub reason : Reason K
  pub refuses : Refuses s at reason

-- it is accepted or refused
abbrev pub HasVerdict : {N K : Type 0} → Search N K → Type 0
HasVerdict s = IsAccepted s ⊎ IsRefused s

-- the nodes of an accepted search with their links, as a graph
abbrev pub graph_of : {N D E : Type 0} → List (Visited N D E) → Graph
graph_of {N} {D} {E} nodes = map (λ (x : Visited N D E). map (λ (l : Link E). l.to) x.links) nodes

-- the search is accepted, and these are its nodes with their links
pub record IsMapped {N K D E : Type 0} (s : Search N K) (nodes : List (Visited N D E)) : Type 0 where
  pub accepts : Accepts s
  pub lists : ListsAll s (map (λ (x : Visited N D E). x.node) nodes)
  pub links : (i : ℕ) (x : Visited N D E) → slice_get nodes i ≡ Some x → LeadsTo nodes x.links (successors s x.node)

-- where no loops are permitted, no node lies on a cycle
abbrev pub HasNoCycle : {N K D E : Type 0} → Search N K → List (Visited N D E) → Type 0
HasNoCycle s nodes = IsMapped s nodes → s.loops ≡ false → (n : ℕ) → IsOnCycle (graph_of nodes) n → ⊥
