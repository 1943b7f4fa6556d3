-- What the list of an accepted graph's nodes says.
use Rattle.std.specs.Prelude.{◌≡◌, ℕ, Some, List, map, length, slice_get}
use Rattle.path_search.specs.Paths.{Search, successors}
use Rattle.path_search.specs.Openings.{ListsAll}
use Rattle.path_search.specs.Verdict.{Accepts}
use Rattle.path_search.specs.declared.visit.Link.{Link}
use Rattle.path_search.specs.declared.node.Visited.{Visited}

abbrev pub node : {N D E : Type 0} → Visited N D E → N
node v = v.node

abbrev pub labels : {E : Type 0} → List (Link E) → List E
labels links = map (λ l. l.label) links

-- the links lead to hs, each by the number of its node in the list
pub record LeadsTo {N D E : Type 0} (nodes : List (Visited N D E)) (links : List (Link E)) (hs : List N) : Type 0 where
  pub number : length links ≡ length hs
  pub to : (j : ℕ) (l : Link E) → slice_get links j ≡ Some l
      → (w : Visited N D E) × (slice_get nodes l.to ≡ Some w) × (slice_get hs j ≡ Some w.node)

-- The graph is accepted, and the list has all its nodes, in path order, each with links to its successors and with what it carries.
pub record Explored {N K D E : Type 0} (s : Search N K) (Carries : N → D → List E → Type 0) (nodes : List (Visited N D E)) : Type 0 where
  pub accepts : Accepts s
  pub lists : ListsAll s (map node nodes)
  pub links : (i : ℕ) (v : Visited N D E) → slice_get nodes i ≡ Some v → LeadsTo nodes v.links (successors s v.node)
  pub carries : (i : ℕ) (v : Visited N D E) → slice_get nodes i ≡ Some v → Carries v.node v.item (labels v.links)
