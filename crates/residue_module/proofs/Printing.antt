-- The blocks of parts, part by part.
use Rattle.std.proofs.Common.{◌≡◌, ℕ, suc, ◌+◌, ◌≤◌, Bool, true, List, [], ◌∷◌, ◌++◌, length, sym, ap, ◌∙◌, arith, append-nil, append_assoc, length-append}
use Rattle.std.proofs.lemmas.Bool.{and_parts}
use Rattle.std.specs.List.{list_all}
use Rattle.ir_module.specs.declared.tree.Block.{Block}
use Rattle.residue.specs.declared.parts.Jump.{Jump}
use Rattle.residue.specs.declared.parts.Part.{Part}
use Rattle.residue.specs.Instructions.{Words}
use Rattle.residue.specs.Printed.{names_of, names_of_part}
use Rattle.residue_module.specs.code.Blocks.{part_block, part_blocks}
use Rattle.residue_module.specs.code.Edges.{Row, leading_to, phis_from, row_from, rows_from}

-- what every part passes the first and the rest pass
module _ {A : Type 0} (test : A → Bool) (all rest : List A) (x : A) (e : all ≡ x ∷ rest) (h : list_all test all ≡ true) where
  pub first-passes : test x ≡ true
  first-passes = (and_parts (test x) (list_all test rest) (ap (list_all test) (sym e) ∙ h)).0

  pub rest-pass : list_all test rest ≡ true
  rest-pass = (and_parts (test x) (list_all test rest) (ap (list_all test) (sym e) ∙ h)).1

module _ (all rest : List Part) (p : Part) (e : all ≡ p ∷ rest) where
  pub part-count : (n whole : ℕ) → n + length all ≡ whole → n + 1 + length rest ≡ whole
  part-count n whole h = let g = ap length e in omega (arith, g, h)

  names-split : length (names_of all) ≡ length (names_of_part p) + length (names_of rest)
  names-split = ap (λ ps. length (names_of ps)) e ∙ length-append (names_of_part p) (names_of rest)

  pub part-room : (free whole : ℕ) → free + length (names_of all) ≡ whole → free + length (names_of_part p) ≤ whole
  part-room free whole h = let g = names-split in omega (arith, g, h)

  pub part-next : (free next whole : ℕ) → next ≡ free + length (names_of_part p) → free + length (names_of all) ≡ whole → next + length (names_of rest) ≡ whole
  part-next free next whole f h = let g = names-split in omega (arith, f, g, h)

  module _ (ws : Words) (edges : List (ℕ × Jump)) (n : ℕ) where
    module _ (row : Row) (rows left : List Row) (f : left ≡ row ∷ rows) (g : left ≡ rows_from ws edges n all) where
      both : row ∷ rows ≡ row_from ws (leading_to n edges) 0 p.params ∷ rows_from ws edges (suc n) rest
      both = sym f ∙ g ∙ ap (rows_from ws edges n) e

      pub part-row : row ≡ row_from ws (leading_to n edges) 0 p.params
      part-row = let b = both in cc

      pub part-rows : (m : ℕ) → m ≡ n + 1 → rows ≡ rows_from ws edges m rest
      part-rows m k =
          let b = both in
          let r : rows ≡ rows_from ws edges (suc n) rest = cc in
          let s : suc n ≡ m = omega (arith, k) in
          r ∙ ap (λ m. rows_from ws edges m rest) s

      pub part-printed : (blocks more whole : List Block) (b : Block) (free next m : ℕ) → b ≡ part_block ws n free (phis_from free row) p → m ≡ n + 1 → next ≡ free + length (names_of_part p) → more ≡ blocks ++ b ∷ []
          → blocks ++ part_blocks ws edges n free all ≡ whole → more ++ part_blocks ws edges m next rest ≡ whole
      part-printed blocks more whole b free next m i k j l h =
          let s : m ≡ suc n = omega (arith, k) in
          ap (λ bs. bs ++ part_blocks ws edges m next rest) (l ∙ ap (λ b. blocks ++ b ∷ []) (i ∙ ap (λ r. part_block ws n free (phis_from free r) p) part-row))
          ∙ append_assoc blocks (mine ∷ []) (part_blocks ws edges m next rest)
          ∙ ap (λ m. blocks ++ (mine ∷ part_blocks ws edges m next rest)) s
          ∙ ap (λ next. blocks ++ (mine ∷ part_blocks ws edges (suc n) next rest)) j
          ∙ ap (λ ps. blocks ++ part_blocks ws edges n free ps) (sym e)
          ∙ h
        where
          mine : Block
          mine = part_block ws n free (phis_from free (row_from ws (leading_to n edges) 0 p.params)) p

-- no part is left
pub parts-printed-all : (ws : Words) (edges : List (ℕ × Jump)) (n free : ℕ) (parts : List Part) (blocks whole : List Block) → length parts ≡ 0 → blocks ++ part_blocks ws edges n free parts ≡ whole → blocks ≡ whole
parts-printed-all ws edges n free [] blocks whole e h = sym (append-nil blocks) ∙ h
parts-printed-all ws edges n free (p ∷ parts) blocks whole e h = absurd (omega (arith, e))
