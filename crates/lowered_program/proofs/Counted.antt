-- Counting the Dynamic values that parts give.
use Rattle.std.proofs.Common.{◌≡◌, ◌+◌, List, [], ◌∷◌, length, map, refl, ap, ◌∙◌, arith, length-append}
use Rattle.std.specs.Prelude.{flat_map}
use Rattle.std.proofs.lemmas.List.{length-map}
use Rattle.residue.specs.declared.parts.Line.{Line}
use Rattle.residue.specs.declared.parts.Line.TheVariants as line
use Rattle.residue.specs.declared.parts.Part.{Part}
use Rattle.residue.specs.Scopes.{item_gives, items_of, part_gives}
use Rattle.lowered_program.specs.code.Counts.{lines_count, parts_count}

lines-count : (lines : List Line) → length (flat_map item_gives (items_of lines)) ≡ lines_count lines
lines-count [] = refl
lines-count (line.Item x ∷ lines) =
    length-append (item_gives x) (flat_map item_gives (items_of lines)) ∙ ap (λ n. length (item_gives x) + n) (lines-count lines)
lines-count (line.Made j ∷ lines) = lines-count lines ∙ omega arith
lines-count (line.Freed j ∷ lines) = lines-count lines ∙ omega arith

part-count : (p : Part) → length (part_gives p) ≡ length p.params + lines_count p.lines
part-count p =
    length-append (map (λ x. (x.0.0, x.1)) p.params) (flat_map item_gives (items_of p.lines))
    ∙ ap (λ n. n + length (flat_map item_gives (items_of p.lines))) (length-map p.params (λ x. (x.0.0, x.1)))
    ∙ ap (λ n. length p.params + n) (lines-count p.lines)

pub counts_all : (parts : List Part) → length (flat_map part_gives parts) ≡ parts_count parts
counts_all [] = refl
counts_all (p ∷ parts) =
    length-append (part_gives p) (flat_map part_gives parts)
    ∙ ap (λ n. n + length (flat_map part_gives parts)) (part-count p)
    ∙ ap (λ n. (length p.params + lines_count p.lines) + n) (counts_all parts)
