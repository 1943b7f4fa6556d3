-- The state of the search for components, and its steps.
use Rattle.std.specs.Prelude.{◌≡◌, ◌⊎◌, ℕ, ◌<◌, ◌≤◌, ◌+◌, nat_le, Bool, true, false, if◌then◌else◌, List, [], ◌∷◌, ◌++◌, take, length, slice_get, slice_set, Contains, Option, None, Some}
use Rattle.graph_cycles.specs.declared.search.Mark.{Mark}
use Rattle.graph_cycles.specs.declared.search.Mark.TheVariants as mark
use Rattle.graph_cycles.specs.declared.search.Start.{Start}
use Rattle.graph_cycles.specs.declared.search.Search.{Search}
use Rattle.graph_cycles.specs.Cycles.{Graph, successors, Reaches, LeadsTo, IsOnCycle}

-- ---- the state

-- the node is closed, or no node has this number
abbrev pub is_done : Option Mark → Bool
is_done None = true
is_done (Some mark.Unseen) = false
is_done (Some (mark.Open p)) = false
is_done (Some (mark.Closed b)) = true

-- where an edge out of a component may lead to: to what is done, to an open node that the component or a
-- later one has (into a component that is not cyclic no explored edge leads back), or it waits to be explored
pub data IsMet (marks : List Mark) (targets : List ℕ) (s : Start) (w : ℕ) : Type 0 where
  done : is_done (slice_get marks w) ≡ true → IsMet marks targets s w
  inside : (p : ℕ) → slice_get marks w ≡ Some (mark.Open p) → s.members ≤ p → (s.cyclic ≡ true) ⊎ (s.members < p) → IsMet marks targets s w
  waits : (q : ℕ) → s.targets ≤ q → slice_get targets q ≡ Some w → IsMet marks targets s w

-- the open nodes and the waiting targets from the start on and below these numbers are a component
pub record IsComponent (g : Graph) (marks : List Mark) (opens targets : List ℕ) (s : Start) (below wait_below : ℕ) : Type 0 where
  pub nonempty : s.members < below
  pub fits : s.targets ≤ wait_below
  pub back : (j r v : ℕ) → s.members ≤ j → j < below → slice_get opens s.members ≡ Some r → slice_get opens j ≡ Some v → Reaches g v r
  pub cyclic : s.cyclic ≡ true → (j v : ℕ) → s.members ≤ j → j < below → slice_get opens j ≡ Some v → IsOnCycle g v
  pub single : s.cyclic ≡ false → below ≡ s.members + 1
  pub ahead : (q j v t : ℕ) → s.targets ≤ q → j < below → slice_get opens j ≡ Some v → slice_get targets q ≡ Some t → LeadsTo g v t
  pub met : (j v w : ℕ) → s.members ≤ j → slice_get opens j ≡ Some v → Contains (successors g v) w → IsMet marks targets s w

abbrev pub first_member : ℕ → List Start → ℕ
first_member n [] = n
first_member n (s ∷ ss) = s.members

abbrev pub first_target : ℕ → List Start → ℕ
first_target n [] = n
first_target n (s ∷ ss) = s.targets

-- the starts are those of components, the last of which ends below these numbers
abbrev pub AreComponents : Graph → List Mark → List ℕ → List ℕ → ℕ → ℕ → List Start → Type 0
AreComponents g marks opens targets n k [] = Unit {0}
AreComponents g marks opens targets n k (s ∷ ss) = IsComponent g marks opens targets s (first_member n ss) (first_target k ss) × AreComponents g marks opens targets n k ss

-- the marks number the open nodes
pub record AreOpened (marks : List Mark) (opens : List ℕ) : Type 0 where
  pub opened : (v p : ℕ) → slice_get marks v ≡ Some (mark.Open p) → slice_get opens p ≡ Some v
  pub marked : (v p : ℕ) → slice_get opens p ≡ Some v → slice_get marks v ≡ Some (mark.Open p)

pub record IsSearch (g : Graph) (marks : List Mark) (opens targets : List ℕ) (starts : List Start) : Type 0 where
  pub sized : length marks ≡ length g
  pub numbered : AreOpened marks opens
  pub ahead : (i j u v : ℕ) → i ≤ j → slice_get opens i ≡ Some u → slice_get opens j ≡ Some v → Reaches g u v
  pub closed : (v w : ℕ) → is_done (slice_get marks v) ≡ true → Contains (successors g v) w → is_done (slice_get marks w) ≡ true
  pub right : (v : ℕ) (b : Bool) → slice_get marks v ≡ Some (mark.Closed b) → (b ≡ true → IsOnCycle g v) × (IsOnCycle g v → b ≡ true)
  pub components : AreComponents g marks opens targets (length opens) (length targets) starts
  pub first : first_member (length opens) starts ≡ 0

abbrev pub IsSearchState : Graph → Search → Type 0
IsSearchState g s = IsSearch g s.marks s.opens s.targets s.starts

-- ---- the steps

abbrev pub fresh : ℕ → ℕ → Start
fresh n k = record { members = n; targets = k; cyclic = false }

pub record Opens (g : Graph) (v : ℕ) (old new : Search) : Type 0 where
  pub marks : new.marks ≡ slice_set old.marks v (mark.Open (length old.opens))
  pub opens : new.opens ≡ old.opens ++ v ∷ []
  pub targets : new.targets ≡ old.targets ++ successors g v
  pub starts : new.starts ≡ old.starts ++ fresh (length old.opens) (length old.targets) ∷ []

abbrev pub IsLast : List Start → Option Start → Type 0
IsLast starts None = starts ≡ []
IsLast starts (Some s) = (before : List Start) × (starts ≡ before ++ s ∷ [])

-- the mark after the open nodes from number n on are closed
abbrev pub closed_from : ℕ → Bool → Option Mark → Option Mark
closed_from n c None = None
closed_from n c (Some mark.Unseen) = Some mark.Unseen
closed_from n c (Some (mark.Open p)) = if nat_le n p then Some (mark.Closed c) else Some (mark.Open p)
closed_from n c (Some (mark.Closed b)) = Some (mark.Closed b)

pub record Closes (s : Start) (old new : Search) : Type 0 where
  pub marks : (w : ℕ) → slice_get new.marks w ≡ closed_from s.members s.cyclic (slice_get old.marks w)
  pub sized : length new.marks ≡ length old.marks
  pub opens : new.opens ≡ take s.members old.opens
  pub targets : new.targets ≡ old.targets
  pub starts : new.starts ≡ old.starts

-- where the open node of number p belongs to a component that ends below these numbers
pub record MergesAt (g : Graph) (targets : List ℕ) (k p : ℕ) (s new : Search) : Type 0 where
  pub before : List Start
  pub last : Start
  pub below : ℕ
  pub wait_below : ℕ
  pub is : new.starts ≡ before ++ record { members = last.members; targets = last.targets; cyclic = true } ∷ []
  pub starts_at : last.members ≤ p
  pub has : p < below
  pub within : below ≤ length s.opens
  pub waits_within : wait_below ≤ k
  pub component : IsComponent g s.marks s.opens targets last below wait_below
  pub components : AreComponents g s.marks s.opens targets last.members last.targets before
  pub first : first_member last.members before ≡ 0

pub record Merges (p : ℕ) (old new : Search) : Type 0 where
  pub marks : new.marks ≡ old.marks
  pub opens : new.opens ≡ old.opens
  pub targets : new.targets ≡ old.targets
  pub fewer : length new.starts ≤ length old.starts
  pub merged : (g : Graph) (targets : List ℕ) (k : ℕ) → AreComponents g old.marks old.opens targets (length old.opens) k old.starts → MergesAt g targets k p old new

-- the target t was taken from the last component, or is a node from which the search begins
pub record IsAt (g : Graph) (t : ℕ) (s : Search) : Type 0 where
  pub search : IsSearch g s.marks s.opens (s.targets ++ t ∷ []) s.starts
  pub fits : (before : List Start) (last : Start) → s.starts ≡ before ++ last ∷ [] → last.targets ≤ length s.targets

abbrev pub is_unseen : Option Mark → Bool
is_unseen None = false
is_unseen (Some mark.Unseen) = true
is_unseen (Some (mark.Open p)) = false
is_unseen (Some (mark.Closed b)) = false

abbrev pub IsSeen : List Mark → ℕ → Type 0
IsSeen marks v = is_unseen (slice_get marks v) ≡ false

-- what the nodes that were not met will take: their edges, their start and themselves
abbrev pub work : Graph → List Mark → ℕ
work [] marks = 0
work (vs ∷ g) [] = 0
work (vs ∷ g) (m ∷ marks) = (if is_unseen (Some m) then length vs + 2 else 0) + work g marks

-- the number of steps that are left, at most
abbrev pub left : Graph → Search → ℕ
left g s = work g s.marks + (length s.targets + length s.starts)

pub record Follows (g : Graph) (t : ℕ) (old new : Search) : Type 0 where
  pub search : IsSearchState g new
  pub kept : (v : ℕ) → IsSeen old.marks v → IsSeen new.marks v
  pub seen : IsSeen new.marks t
  pub less : left g new ≤ left g old

pub record Advances (g : Graph) (old new : Search) : Type 0 where
  pub search : IsSearchState g new
  pub kept : (v : ℕ) → IsSeen old.marks v → IsSeen new.marks v
  pub less : left g new < left g old

pub record Finishes (g : Graph) (old new : Search) : Type 0 where
  pub search : IsSearchState g new
  pub idle : new.starts ≡ []
  pub kept : (v : ℕ) → IsSeen old.marks v → IsSeen new.marks v

pub record Explores (g : Graph) (v : ℕ) (old new : Search) : Type 0 where
  pub search : IsSearchState g new
  pub idle : new.starts ≡ []
  pub seen : IsSeen new.marks v
  pub kept : (w : ℕ) → IsSeen old.marks w → IsSeen new.marks w

-- no node was met
pub record IsBegin (n : ℕ) (s : Search) : Type 0 where
  pub sized : length s.marks ≡ n
  pub unseen : (v : ℕ) (m : Mark) → slice_get s.marks v ≡ Some m → m ≡ mark.Unseen
  pub opens : s.opens ≡ []
  pub targets : s.targets ≡ []
  pub starts : s.starts ≡ []

abbrev pub is_cyclic : Mark → Bool
is_cyclic mark.Unseen = false
is_cyclic (mark.Open p) = false
is_cyclic (mark.Closed b) = b
