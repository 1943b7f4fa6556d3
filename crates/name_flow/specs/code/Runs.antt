-- Runs of consecutive blocks: triples of a name, the last block and the first block, in ascending order.
use Rattle.std.specs.Prelude.{◌≡◌, ◌↔◌, ℕ, ◌+◌, ◌-◌, ◌==◌, ◌&&◌, nat_le, Bool, true, false, List, [], ◌∷◌, ◌++◌, map, find, Contains, Option, None, Some, if◌then◌else◌}
use Rattle.name_flow.specs.code.Spread.{Pair, IsWantedAfter}
use Rattle.name_flow.specs.code.Triples.{Triple, Sorts}

-- the run is of x, and ends at b or later
abbrev pub reaches : ℕ → ℕ → Triple → Bool
reaches x b run = run.0 == x && nat_le b run.1

abbrev pub begins : ℕ → Option Triple → Bool
begins b None = false
begins b (Some run) = nat_le run.2 b

-- the block b is in a run of x
abbrev pub in_run : List Triple → ℕ → ℕ → Bool
in_run runs x b = begins b (find (reaches x b) runs)

-- the run that the block b goes on with, and what is complete before it
abbrev pub opened : Triple → ℕ → Triple
opened run b = if nat_le (b - 1) run.1 then (run.0, b, run.2) else (run.0, b, b)

abbrev pub closed : Triple → ℕ → List Triple
closed run b = if nat_le (b - 1) run.1 then [] else run ∷ []

-- the runs of ascending blocks after this run was begun
abbrev pub runs_from : Triple → List Triple → List Triple
runs_from run [] = run ∷ []
runs_from run (t ∷ ts) = closed run t.1 ++ runs_from (opened run t.1) ts

abbrev pub runs_of : List Triple → List Triple
runs_of [] = []
runs_of (t ∷ ts) = runs_from (t.0, t.1, t.1) ts

-- the name first, and the block first
abbrev pub name_first : Triple → Triple
name_first t = (t.1, t.0, t.2)

abbrev pub block_of : Pair → Triple
block_of p = (p.1, p.0, 0)

-- the pairs are those of a block and a name that is wanted at its end
abbrev pub AreEnds : List Triple → List Triple → List Triple → List Pair → Type 0
AreEnds used defined es ends = (b x : ℕ) → Contains ends (b, x) ↔ IsWantedAfter used defined es x b

-- how many triples of x the list begins with, these, and the others
abbrev pub lead : ℕ → List Triple → ℕ
lead x [] = 0
lead x (t ∷ ts) = if t.0 == x then lead x ts + 1 else 0

abbrev pub front : ℕ → List Triple → List Triple
front x [] = []
front x (t ∷ ts) = if t.0 == x then t ∷ front x ts else []

abbrev pub others : ℕ → List Triple → List Triple
others x [] = []
others x (t ∷ ts) = if t.0 == x then others x ts else t ∷ ts

-- the runs of blocks at whose ends a name is wanted, by these uses of it, are added
pub record AddsName (uses defined es old new : List Triple) : Type 0 where
  pub ends : List Pair
  pub blocks : List Triple
  pub ends_are : AreEnds (map name_first uses) defined es ends
  pub sorted : Sorts (map block_of ends) blocks
  pub is : new ≡ old ++ runs_of blocks

-- one name after another
pub data AddsNames (defined es : List Triple) : List Triple → List Triple → List Triple → Type 0 where
  no_name : (old : List Triple) → AddsNames defined es [] old old
  one_name : {t : Triple} {rest old middle new : List Triple}
      → AddsName (front t.0 (t ∷ rest)) defined es old middle
      → AddsNames defined es (others t.0 (t ∷ rest)) middle new
      → AddsNames defined es (t ∷ rest) old new

-- the runs are those of the blocks at whose ends a name is wanted
abbrev pub AreRuns : List Triple → List Triple → List Triple → List Triple → Type 0
AreRuns used defined es runs = (x b : ℕ) → (in_run runs x b ≡ true) ↔ IsWantedAfter used defined es x b
