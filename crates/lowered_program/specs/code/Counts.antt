-- How many Dynamic values are given.
use Rattle.std.specs.Prelude.{ℕ, ◌+◌, List, [], ◌∷◌, length}
use Rattle.residue.specs.declared.parts.Line.{Line}
use Rattle.residue.specs.declared.parts.Line.TheVariants as line
use Rattle.residue.specs.declared.parts.Part.{Part}
use Rattle.residue.specs.Scopes.{item_gives}

abbrev pub line_count : Line → ℕ
line_count (line.Item x) = length (item_gives x)
line_count (line.Made j) = 0
line_count (line.Freed j) = 0

abbrev pub lines_count : List Line → ℕ
lines_count [] = 0
lines_count (l ∷ lines) = line_count l + lines_count lines

abbrev pub part_count : Part → ℕ
part_count p = length p.params + lines_count p.lines

abbrev pub parts_count : List Part → ℕ
parts_count [] = 0
parts_count (p ∷ parts) = part_count p + parts_count parts
