-- How the list of nodes is made from the tables of a visit.
use Rattle.std.specs.Prelude.{◌≡◌, ℕ, ◌≤◌, Option, Some, List, map, length, slice_get, Contains}
use Rattle.path_search.specs.Explored.{labels}
use Rattle.path_search.specs.code.Visit.{IsNumbered, number_of}
use Rattle.path_search.specs.declared.visit.Link.{Link}
use Rattle.path_search.specs.declared.visit.Found.{Found}
use Rattle.path_search.specs.declared.visit.Mark.{Mark}
use Rattle.path_search.specs.declared.node.Visited.{Visited}

-- each link has a number
abbrev pub HaveNumbers : {E : Type 0} → List Mark → List (Link E) → Type 0
HaveNumbers {E} marks links = (j : ℕ) (l : Link E) → slice_get links j ≡ Some l → (m : Mark) × (n : ℕ) × (slice_get marks l.to ≡ Some m) × (number_of m ≡ Some n)

-- the links by number in place of those by index
pub record Renumbers {E : Type 0} (marks : List Mark) (old new : List (Link E)) : Type 0 where
  pub size : length new ≡ length old
  pub same : labels new ≡ labels old
  pub to : (j : ℕ) (l k : Link E) → slice_get old j ≡ Some l → slice_get new j ≡ Some k → (m : Mark) × (slice_get marks l.to ≡ Some m) × (number_of m ≡ Some k.to)

-- the tables of a visit that is done
pub record IsWhole {N D E : Type 0} (table : List N) (marks : List Mark) (found : List (Found D E)) : Type 0 where
  pub here : (n : ℕ) (f : Found D E) → slice_get found n ≡ Some f → (h : N) × (slice_get table f.index ≡ Some h)
  pub apart : (m n : ℕ) (f g : Found D E) → slice_get found m ≡ Some f → slice_get found n ≡ Some g → f.index ≡ g.index → m ≡ n
  pub numbered : (n : ℕ) (f : Found D E) → slice_get found n ≡ Some f → HaveNumbers marks f.links

-- v is made from f
pub record IsFrom {N D E : Type 0} (table : List N) (marks : List Mark) (f : Found D E) (v : Visited N D E) : Type 0 where
  pub node : slice_get table f.index ≡ Some v.node
  pub item : v.item ≡ f.item
  pub links : Renumbers marks f.links v.links

pub record AreFrom {N D E : Type 0} (table : List N) (marks : List Mark) (found : List (Found D E)) (nodes : List (Visited N D E)) : Type 0 where
  pub number : length nodes ≡ length found
  pub each : (i : ℕ) (f : Found D E) (v : Visited N D E) → slice_get found i ≡ Some f → slice_get nodes i ≡ Some v → IsFrom table marks f v

-- the nodes from number n on are in their slots
abbrev pub AreInSlots : {N D E : Type 0} → List N → List (Found D E) → List (Option N) → ℕ → Type 0
AreInSlots {N} {D} {E} table found slots n = (i : ℕ) (f : Found D E) → n ≤ i → slice_get found i ≡ Some f → (h : N) × (slice_get table f.index ≡ Some h) × (slice_get slots f.index ≡ Some (Some h))
