-- A graph that is given by what its nodes do, its paths as lists of choices, and their order.
use Rattle.std.specs.Prelude.{◌≡◌, ℕ, ◌<◌, ◌⊎◌, Bool, Option, Some, List, [], ◌∷◌, ◌++◌, slice_get}
use Rattle.std.specs.Option.{option_and_then}

-- what a node does: it goes on to its successors, in this order, or it is bad of some kind; one without successors is an exit
pub data Turn (N K : Type 0) : Type 0 where
  Next : List N → Turn N K
  Bad : K → Turn N K

abbrev pub onward : {N K : Type 0} → Turn N K → List N
onward (Next ns) = ns
onward (Bad k) = []

-- a graph, how many of its nodes are permitted, and whether its paths may come back to themselves
pub record Search (N K : Type 0) : Type 0 where
  pub start : N
  pub turn : N → Turn N K
  pub budget : ℕ
  pub loops : Bool

abbrev pub successors : {N K : Type 0} → Search N K → N → List N
successors s a = onward (s.turn a)

-- A path is a list of choices: choice i goes on to successor i, counted from 0. This is the node that it leads to from a.
unfoldable pub end_from : {N K : Type 0} → Search N K → N → List ℕ → Option N
end_from s a [] = Some a
end_from s a (i ∷ p) = option_and_then (λ b. end_from s b p) (slice_get (successors s a) i)

-- the path p leads from the start to g
abbrev pub IsEnd : {N K : Type 0} → Search N K → List ℕ → N → Type 0
IsEnd s p g = end_from s s.start p ≡ Some g

-- path order: p is a proper prefix of q, or has the lower choice at their first difference
unfoldable pub IsBefore : List ℕ → List ℕ → Type 0
IsBefore [] [] = ⊥
IsBefore [] (j ∷ q) = Unit {0}
IsBefore (i ∷ p) [] = ⊥
IsBefore (i ∷ p) (j ∷ q) = (i < j) ⊎ ((i ≡ j) × IsBefore p q)

pub record IsPrefix (p q : List ℕ) : Type 0 where
  pub rest : List ℕ
  pub whole : q ≡ p ++ rest

-- the path p leads to g, and no node occurs on it twice: two prefixes with one end are one
pub record IsSimple {N K : Type 0} (s : Search N K) (p : List ℕ) (g : N) : Type 0 where
  pub ends : IsEnd s p g
  pub once : (a b : List ℕ) (h : N) → IsPrefix a p → IsPrefix b p → IsEnd s a h → IsEnd s b h → a ≡ b

-- the node h occurs on the path p
pub record LiesOn {N K : Type 0} (s : Search N K) (p : List ℕ) (h : N) : Type 0 where
  pub path : List ℕ
  pub prefix : IsPrefix path p
  pub ends : IsEnd s path h
