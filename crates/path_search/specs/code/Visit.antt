-- The state of a visit: its tables and its stack.
use Rattle.std.specs.Prelude.{◌≡◌, ℕ, suc, ◌+◌, ◌-◌, ◌<◌, ◌≤◌, ◌^◌, ◌⊎◌, Option, Some, None, List, [], ◌∷◌, ◌++◌, map, length, slice_get, Contains}
use Rattle.path_search.specs.Paths.{Search, successors, IsEnd, IsSimple}
use Rattle.path_search.specs.Openings.{Opening}
use Rattle.path_search.specs.Verdict.{Accepts, Refuses}
use Rattle.path_search.specs.declared.reason.Reason.{Reason}
use Rattle.path_search.specs.code.Frontier.{Frontier, Checked}
use Rattle.path_search.specs.code.Steps.{target, label}
use Rattle.path_search.specs.declared.graph.Edge.{Edge}
use Rattle.path_search.specs.declared.visit.Link.{Link}
use Rattle.path_search.specs.declared.visit.Found.{Found}
use Rattle.path_search.specs.declared.visit.Frame.{Frame}
use Rattle.path_search.specs.declared.visit.Mark.{Mark}
use Rattle.path_search.specs.declared.visit.Mark.TheVariants.{Seen, Open, Left}

-- no element stands twice
abbrev pub IsOnce : {A : Type 0} → List A → Type 0
IsOnce {A} xs = (i j : ℕ) (x : A) → slice_get xs i ≡ Some x → slice_get xs j ≡ Some x → i ≡ j

-- the choices of the path that is tried next
abbrev pub position : List Frame → List ℕ
position fs = map (λ f. f.choice) fs

-- the links lead to hs by their indices in the table
pub record LeadTo {N E : Type 0} (table : List N) (links : List (Link E)) (hs : List N) : Type 0 where
  pub number : length links ≡ length hs
  pub to : (j : ℕ) (l : Link E) → slice_get links j ≡ Some l → (h : N) × (slice_get hs j ≡ Some h) × (slice_get table l.to ≡ Some h)

-- f is entered by the path p
pub record IsEntered {N K D E : Type 0} (s : Search N K) (table : List N) (p : List ℕ) (f : Found D E) : Type 0 where
  pub at : N
  pub ends : IsEnd s p at
  pub here : slice_get table f.index ≡ Some at
  pub links : LeadTo table f.links (successors s at)
  pub small : length f.links < 2 ^ 64

-- the node of this number has this index
abbrev pub HasIndex : {D E : Type 0} → List (Found D E) → ℕ → ℕ → Type 0
HasIndex {D} {E} found n i = (f : Found D E) × (slice_get found n ≡ Some f) × (f.index ≡ i)

abbrev pub IsOnStack : List Frame → ℕ → Type 0
IsOnStack stack n = (f : Frame) × Contains stack f × (f.number ≡ n)

-- what the mark of an index says
abbrev pub Says : {D E : Type 0} → List (Found D E) → List Frame → ℕ → Mark → Type 0
Says {D} {E} found stack i Seen = (n : ℕ) (f : Found D E) → slice_get found n ≡ Some f → f.index ≡ i → ⊥
Says found stack i (Open n) = HasIndex found n i × IsOnStack stack n
Says found stack i (Left n) = HasIndex found n i × (IsOnStack stack n → ⊥)

pub record IsVisit {N K D E : Type 0} (s : Search N K) (table : List N) (marks : List Mark) (found : List (Found D E)) (stack : List Frame) : Type 0 where
  pub paths : List (List ℕ)
  pub frontier : Frontier s (position stack) paths
  pub checked : Checked s paths
  pub once : IsOnce table
  pub number : length found ≡ length paths
  pub entered : (n : ℕ) (p : List ℕ) (f : Found D E) → slice_get paths n ≡ Some p → slice_get found n ≡ Some f → IsEntered s table p f
  pub stands : (lower upper : List Frame) (f : Frame) → stack ≡ lower ++ f ∷ upper → slice_get paths f.number ≡ Some (position lower)
  pub size : length marks ≡ length table
  pub marked : (i : ℕ) (m : Mark) → slice_get marks i ≡ Some m → Says found stack i m

-- the node of this index is new, and the position leads to it
pub record Reaches {N K : Type 0} (s : Search N K) (table : List N) (marks : List Mark) (stack : List Frame) (index : ℕ) : Type 0 where
  pub at : N
  pub here : slice_get table index ≡ Some at
  pub simple : IsSimple s (position stack) at
  pub new : slice_get marks index ≡ Some Seen

-- the number in a mark
abbrev pub number_of : Mark → Option ℕ
number_of Seen = None
number_of (Open n) = Some n
number_of (Left n) = Some n

-- the link's mark has the number of the node that it leads to
pub record IsNumbered {D E : Type 0} (marks : List Mark) (found : List (Found D E)) (to : ℕ) : Type 0 where
  pub mark : Mark
  pub marked : slice_get marks to ≡ Some mark
  pub number : ℕ
  pub is : number_of mark ≡ Some number
  pub index : HasIndex found number to

pub record IsDone {N K D E : Type 0} (s : Search N K) (table : List N) (marks : List Mark) (found : List (Found D E)) : Type 0 where
  pub accepts : Accepts s
  pub paths : List (List ℕ)
  pub opening : Opening s paths
  pub longest : (qs : List (List ℕ)) → Opening s qs → length qs ≤ length paths
  pub number : length found ≡ length paths
  pub entered : (n : ℕ) (p : List ℕ) (f : Found D E) → slice_get paths n ≡ Some p → slice_get found n ≡ Some f → IsEntered s table p f
  pub apart : (m n : ℕ) (f g : Found D E) → slice_get found m ≡ Some f → slice_get found n ≡ Some g → f.index ≡ g.index → m ≡ n
  pub numbered : (n : ℕ) (f : Found D E) (l : Link E) → slice_get found n ≡ Some f → Contains f.links l → IsNumbered marks found l.to

-- how many links the node of this number has
abbrev pub links_of : {D E : Type 0} → Option (Found D E) → ℕ
links_of None = 0
links_of (Some f) = length f.links

-- how many links of the path's nodes are to be followed, and of how many nodes the path is to be left
unfoldable pub work : {D E : Type 0} → List (Found D E) → List Frame → ℕ
work found [] = 0
work found (f ∷ fs) = suc (links_of (slice_get found f.number) - f.choice) + work found fs

-- new is old, to which the node is added last where it is not there
abbrev pub IsWith : {N : Type 0} → List N → N → List N → Type 0
IsWith old node new = (Contains old node × (new ≡ old)) ⊎ ((Contains old node → ⊥) × (new ≡ old ++ node ∷ []))

-- each index that had a node or a mark has it still, and new indices have the mark Seen
pub record Grows {N : Type 0} (table table' : List N) (marks marks' : List Mark) : Type 0 where
  pub kept : (i : ℕ) (h : N) → slice_get table i ≡ Some h → slice_get table' i ≡ Some h
  pub once : IsOnce table'
  pub size : length marks' ≡ length table'
  pub marks_kept : (i : ℕ) (m : Mark) → slice_get marks i ≡ Some m → slice_get marks' i ≡ Some m
  pub seen : (i : ℕ) (m : Mark) → slice_get marks' i ≡ Some m → slice_get marks i ≡ Some m ⊎ ((slice_get marks i ≡ None) × (m ≡ Seen))

-- the links of the edges
pub record AreLinks {N E : Type 0} (table table' : List N) (edges : List (Edge N E)) (links : List (Link E)) : Type 0 where
  pub among : (i : ℕ) (h : N) → slice_get table' i ≡ Some h → slice_get table i ≡ Some h ⊎ Contains (map target edges) h
  pub leads : LeadTo table' links (map target edges)
  pub labels : map (λ (l : Link E). l.label) links ≡ map label edges

-- some link leads to a node that is open
abbrev pub LeadsToOpen : {E : Type 0} → List Mark → List (Link E) → Type 0
LeadsToOpen {E} marks links = (j : ℕ) × (l : Link E) × (n : ℕ) × (slice_get links j ≡ Some l) × (slice_get marks l.to ≡ Some (Open n))

-- what is kept of the graph's own: nodes are valid at some depth, and data and labels are what their nodes carry
pub record Keeps {N D E : Type 0} (Valid : ℕ → N → Type 0) (Carries : N → D → List E → Type 0) (table : List N) (found : List (Found D E)) : Type 0 where
  pub valid : (i : ℕ) (h : N) → slice_get table i ≡ Some h → (depth : ℕ) × (depth ≤ length found) × Valid depth h
  pub carries : (n : ℕ) (f : Found D E) → slice_get found n ≡ Some f → (h : N) × (slice_get table f.index ≡ Some h) × Carries h f.item (map (λ (l : Link E). l.label) f.links)

-- the node of this index is refused
abbrev pub IsRefused : {N K : Type 0} → Search N K → List N → ℕ → Reason K → Type 0
IsRefused {N} s table index r = (h : N) × (slice_get table index ≡ Some h) × Refuses s h r

-- the frame at its next choice
abbrev pub next_frame : Frame → Frame
next_frame f = record { number = f.number; choice = f.choice + 1 }

-- all links of the last node of the path are followed
abbrev pub IsFollowed : {D E : Type 0} → List (Found D E) → List Frame → Type 0
IsFollowed {D} {E} found stack = (lower : List Frame) (top : Frame) (f : Found D E) → stack ≡ lower ++ top ∷ [] → slice_get found top.number ≡ Some f → length f.links ≤ top.choice
