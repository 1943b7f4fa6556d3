-- The places of a grid and the steps between them.
use Rattle.std.specs.Prelude.{ℕ, ◌+◌, ◌≤◌, nat_lt, List, [], ◌∷◌, ◌++◌, if◌then◌else◌}

abbrev pub Pair : Type 0
Pair = ℕ × ℕ

abbrev pub Padding : Type 0
Padding = (Pair × Pair) × (Pair × Pair)

abbrev pub Place : Type 0
Place = Pair × (Padding × Pair)

abbrev pub place : ℕ → ℕ → Place
place x y = ((x, y), ((((x, y), (x, y)), ((x, y), (x, y))), (x, y)))

-- to the right and below, up to the last column and the last row
abbrev pub to_right : ℕ → ℕ → ℕ → List Place
to_right last x y = if nat_lt x last then place (x + 1) y ∷ [] else []

abbrev pub below : ℕ → ℕ → ℕ → List Place
below last x y = if nat_lt y last then place x (y + 1) ∷ [] else []

-- the place is on the grid
abbrev pub IsOn : ℕ → ℕ → Place → Type 0
IsOn column row n = (n.0.0 ≤ column) × (n.0.1 ≤ row)
