-- The successors of a graph that the tests give by lists.
use Rattle.std.specs.Prelude.{ℕ, List, [], Option, Some, None, slice_get}

abbrev pub list_or_none : Option (List ℕ) → List ℕ
list_or_none None = []
list_or_none (Some ns) = ns

abbrev pub row : List (List ℕ) → ℕ → List ℕ
row rows n = list_or_none (slice_get rows n)
