-- The numbers of the parts that configurations begin, as a table.
use Rattle.std.specs.Prelude.{ℕ, Bool, List, [], ◌∷◌}
use Rattle.fused_parts.specs.Parts.{next_part}

-- the part that each configuration behind one of part n begins or would begin, by these flags
abbrev pub starts_from : ℕ → List Bool → List ℕ
starts_from n [] = []
starts_from n (b ∷ bs) = next_part b n ∷ starts_from (next_part b n) bs

abbrev pub starts : List Bool → List ℕ
starts bs = 0 ∷ starts_from 0 bs
