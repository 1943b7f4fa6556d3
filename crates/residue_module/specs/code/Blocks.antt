-- Blocks by the words that a printer knows.
use Rattle.std.specs.Prelude.{ℕ, suc, ◌+◌, List, [], ◌∷◌, ◌++◌, length, codes}
use Rattle.ir_module.specs.declared.tree.Block.{Block}
use Rattle.ir_module.specs.declared.tree.Inst.{Inst}
use Rattle.ir_module.specs.declared.tree.Phi.{Phi}
use Rattle.ir_module.specs.declared.tree.Term.TheVariants as term
use Rattle.residue.specs.declared.parts.Jump.{Jump}
use Rattle.residue.specs.declared.parts.Part.{Part}
use Rattle.residue.specs.Instructions.{Words, block_number, print_items, print_tail}
use Rattle.residue.specs.Phases.{in_phase}
use Rattle.residue.specs.Printed.{beginning, block, block_name, initialize_call, names_of_part}
use Rattle.residue.specs.Scopes.{items_of}
use Rattle.residue_module.specs.code.Edges.{leading_to, phis_from, row_from}

-- part n with these phis, whose names begin with the number `free`
abbrev pub part_block : Words → ℕ → ℕ → List Phi → Part → Block
part_block ws n free phis p =
    block (block_name n) phis (beginning n ++ print_items ws (free + length p.params) (items_of p.lines)) (print_tail ws p.tail)

-- parts from number n on, where these edges lead from part to part
abbrev pub part_blocks : Words → List (ℕ × Jump) → ℕ → ℕ → List Part → List Block
part_blocks ws edges n free [] = []
part_blocks ws edges n free (p ∷ parts) =
    part_block ws n free (phis_from free (row_from ws (leading_to n edges) 0 p.params)) p
    ∷ part_blocks ws edges (suc n) (free + length (names_of_part p)) parts

-- ---- Base
abbrev pub phase_insts : Words → List (List ℕ) → ℕ → Part → List Inst
phase_insts ws irreversible n p = print_items ws 0 (in_phase irreversible n (items_of p.lines))

abbrev pub first_blocks : Words → List (List ℕ) → Part → List Block
first_blocks ws irreversible p =
    block (codes "entry") [] (initialize_call ∷ []) (term.Br (block_number 1))
    ∷ block (codes "body") [] (phase_insts ws irreversible 1 p) (term.Br (block_number 2))
    ∷ []

abbrev pub last_blocks : Words → List (List ℕ) → Part → List Block
last_blocks ws irreversible p =
    block (codes "measurements") [] (phase_insts ws irreversible 2 p) (term.Br (block_number 3))
    ∷ block (codes "output") [] (phase_insts ws irreversible 3 p) (print_tail ws p.tail)
    ∷ []

abbrev pub phase_blocks : Words → List (List ℕ) → List Part → List Block
phase_blocks ws irreversible [] = []
phase_blocks ws irreversible (p ∷ parts) = first_blocks ws irreversible p ++ last_blocks ws irreversible p
