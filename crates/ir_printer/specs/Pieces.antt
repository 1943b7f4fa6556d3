-- The parts that every line of canonical text is made of.
use Rattle.std.specs.Prelude.{ℕ, List, [], ◌∷◌, ◌++◌, codes}
use Rattle.ir_text.specs.declared.tok.Tok.TheVariants.{Word, Sign}
use Rattle.ir_parts.specs.Parts.{Part, gap, token}

abbrev pub blank : Part
blank = gap (codes " ")

abbrev pub line_end : Part
line_end = gap (codes "\n")

abbrev pub indent : Part
indent = gap (codes "  ")

abbrev pub sign : List ℕ → Part
sign s = token Sign s

abbrev pub word : List ℕ → Part
word s = token Word s

abbrev pub comma : List Part
comma = sign (codes ",") ∷ blank ∷ []

-- ' = '
abbrev pub equals : List Part
equals = blank ∷ sign (codes "=") ∷ blank ∷ []

-- each behind a comma
abbrev pub further : List (List Part) → List Part
further [] = []
further (ps ∷ pss) = comma ++ (ps ++ further pss)

-- with a comma between two
abbrev pub listed : List (List Part) → List Part
listed [] = []
listed (ps ∷ pss) = ps ++ further pss
