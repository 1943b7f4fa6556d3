-- What a step's answer means.
use Rattle.std.specs.Prelude.{◌≡◌, ℕ, Some, List, map, slice_get}
use Rattle.path_search.specs.declared.graph.Edge.{Edge}
use Rattle.path_search.specs.declared.graph.Step.{Step}
use Rattle.path_search.specs.declared.graph.Step.TheVariants as S
use Rattle.path_search.specs.Paths.{Turn, Next, Bad, Search}
use Rattle.path_search.specs.declared.limits.Limits.{Limits}

abbrev pub target : {N E : Type 0} → Edge N E → N
target e = e.to

abbrev pub label : {N E : Type 0} → Edge N E → E
label e = e.label

abbrev pub meant : {N K D E : Type 0} → Step N K D E → Turn N K
meant (S.Next d es) = Next (map target es)
meant (S.Bad k) = Bad k

abbrev pub IfNext : {N K D E : Type 0} → Step N K D E → (D → List (Edge N E) → Type 0) → Type 0
IfNext (S.Next d es) P = P d es
IfNext (S.Bad k) P = Unit {0}

-- each element has the property
abbrev pub AllAt : {A : Type 0} → (A → Type 0) → List A → Type 0
AllAt {A} P xs = (i : ℕ) (x : A) → slice_get xs i ≡ Some x → P x

-- the search of a graph within limits
abbrev pub search : {N K : Type 0} → N → (N → Turn N K) → Limits → Search N K
search start turn limits = record { start = start; turn = turn; budget = limits.budget; loops = limits.loops }
