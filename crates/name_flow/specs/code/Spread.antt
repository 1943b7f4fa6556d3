-- How names spread backwards over edges, from the first uses in blocks to the blocks before them.
use Rattle.std.specs.Prelude.{◌≡◌, ◌⊎◌, ℕ, ◌<◌, ◌+◌, ◌^◌, MatchBool, Bool, true, List, [], ◌∷◌, ◌++◌, Contains, Option, None, Some, slice_get}
use Rattle.name_flow.specs.code.Triples.{Triple, next, holds, is_first}

abbrev pub Pair : Type 0
Pair = ℕ × ℕ

-- the list after the pair is added, if it was not there
abbrev pub Adds : Pair → List Pair → List Pair → Type 0
Adds p old new = ((new ≡ old) × Contains old p) ⊎ (new ≡ old ++ p ∷ [])

-- by these uses, definitions and edges the name x is wanted at the start of the block b
pub data IsWanted (used defined es : List Triple) (x : ℕ) : ℕ → Type 0 where
  used_here : {b : ℕ} (i : ℕ)
      → Contains used (b, x, i)
      → is_first (Some i) (next defined b x 0) ≡ true
      → IsWanted used defined es x b
  used_later : {b s : ℕ}
      → holds es s 0 b ≡ true
      → next defined b x 0 ≡ None
      → IsWanted used defined es x s
      → IsWanted used defined es x b

-- it is wanted at the start of a block that an edge from b leads to
pub record IsWantedAfter (used defined es : List Triple) (x b : ℕ) : Type 0 where
  pub target : ℕ
  pub edge : holds es target 0 b ≡ true
  pub wanted : IsWanted used defined es x target

-- the tables while names spread: what is wanted at starts and ends of blocks, so far
pub record IsSpread (used defined es : List Triple) (starts ends : List Pair) : Type 0 where
  pub starts_wanted : (b x : ℕ) → Contains starts (b, x) → IsWanted used defined es x b
  pub ends_wanted : (b x : ℕ) → Contains ends (b, x) → IsWantedAfter used defined es x b
  pub seeded : (b x i : ℕ) → Contains used (b, x, i) → is_first (Some i) (next defined b x 0) ≡ true → Contains starts (b, x)
  pub through : (b x : ℕ) → Contains ends (b, x) → next defined b x 0 ≡ None → Contains starts (b, x)

-- the starts below number n went over each edge
abbrev pub AreEntered : List Triple → List Pair → List Pair → ℕ → Type 0
AreEntered es starts ends n =
    (k b x p : ℕ) → k < n → slice_get starts k ≡ Some (b, x) → holds es b 0 p ≡ true → Contains ends (p, x)

-- the list grew at its end
abbrev pub Grew : List Pair → List Pair → Type 0
Grew old new = (more : List Pair) × (new ≡ old ++ more)

pub record IsFirstUse (used defined : List Triple) (b x : ℕ) : Type 0 where
  pub index : ℕ
  pub here : Contains used (b, x, index)
  pub first : is_first (Some index) (next defined b x 0) ≡ true

-- a use is added where it is the first
abbrev pub Seeds : List Triple → Triple → List Pair → List Pair → Type 0
Seeds defined t old new = MatchBool (is_first (Some t.2) (next defined t.0 t.1 0)) (Adds (t.0, t.1) old new) (new ≡ old)

-- the starts after the seeds are added
pub record IsSeeded (used defined : List Triple) (old new : List Pair) : Type 0 where
  pub kept : (q : Pair) → Contains old q → Contains new q
  pub each : (b x i : ℕ) → Contains used (b, x, i) → is_first (Some i) (next defined b x 0) ≡ true → Contains new (b, x)
  pub all : (b x : ℕ) → Contains new (b, x) → Contains old (b, x) ⊎ IsFirstUse used defined b x

abbrev pub GrewAt : Option ℕ → Pair → List Pair → List Pair → Type 0
GrewAt None p old new = Adds p old new
GrewAt (Some d) p old new = new ≡ old

-- the pair is added to the ends, and to the starts where the block doesn't define the name
pub record AddsEnd (defined : List Triple) (b x : ℕ) (old_starts old_ends new_starts new_ends : List Pair) : Type 0 where
  pub at_end : Adds (b, x) old_ends new_ends
  pub at_start : GrewAt (next defined b x 0) (b, x) old_starts new_starts

-- the numbers of blocks leave room for one more
abbrev pub IsNarrow : List Triple → Type 0
IsNarrow es = (b p : ℕ) → holds es b 0 p ≡ true → p + 1 < 2 ^ 64

-- the name is wanted at the start of b: it is added at the end of each block before b that the test takes
pub record EntersWhere (takes : ℕ → Bool) (defined es : List Triple) (b x : ℕ)
    (old_starts old_ends new_starts new_ends : List Pair) : Type 0 where
  pub starts_grew : Grew old_starts new_starts
  pub ends_grew : Grew old_ends new_ends
  pub each : (p : ℕ) → takes p ≡ true → holds es b 0 p ≡ true → Contains new_ends (p, x)
  pub through : (p y : ℕ)
      → Contains new_ends (p, y)
      → Contains old_ends (p, y) ⊎ ((y ≡ x) × (next defined p y 0 ≡ None → Contains new_starts (p, y)))
  pub ends : (p y : ℕ) → Contains new_ends (p, y) → Contains old_ends (p, y) ⊎ ((y ≡ x) × (holds es b 0 p ≡ true))
  pub starts : (p y : ℕ)
      → Contains new_starts (p, y)
      → Contains old_starts (p, y) ⊎ ((y ≡ x) × (holds es b 0 p ≡ true) × (next defined p y 0 ≡ None))

abbrev pub Enters : List Triple → List Triple → ℕ → ℕ → List Pair → List Pair → List Pair → List Pair → Type 0
Enters = EntersWhere (λ _. true)
