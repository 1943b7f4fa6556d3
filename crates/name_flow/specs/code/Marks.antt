-- The triples that the tables of a function are made of: block, name and index of a use or a definition,
-- and block, 0 and predecessor of an edge.
use Rattle.std.specs.Prelude.{ℕ, ◌+◌, List, [], ◌∷◌, ◌++◌, length, map, slice_get, Option, None, Some, if◌then◌else◌}
use Rattle.std.specs.Option.{option_to_list}
use Rattle.ir_values.specs.declared.ids.BlockId.{BlockId}
use Rattle.ir_values.specs.declared.ids.LocalId.{LocalId}
use Rattle.ir_module.specs.declared.tree.Block.{Block}
use Rattle.ir_module.specs.declared.tree.Inst.{Inst}
use Rattle.ir_module.specs.declared.tree.Operand.{Operand}
use Rattle.ir_module.specs.declared.tree.Phi.{Phi}
use Rattle.ir_module.specs.Edges.{edges}
use Rattle.name_flow.specs.code.Triples.{Triple, holds}
use Rattle.name_flow.specs.Uses.{reads, inst_reads, term_reads}

-- what g makes of each element and its number, counted from n, one after another
abbrev pub gather : {A B : Type 0} → (ℕ → A → List B) → ℕ → List A → List B
gather g n [] = []
gather g n (x ∷ xs) = g n x ++ gather g (n + 1) xs

abbrev pub marks : ℕ → ℕ → List LocalId → List Triple
marks b i xs = map (λ x. (b, x.0, i)) xs

abbrev pub inst_used : ℕ → ℕ → Inst → List Triple
inst_used b i inst = marks b i (inst_reads inst.what)

abbrev pub inst_defined : ℕ → ℕ → Inst → List Triple
inst_defined b i inst = marks b i (option_to_list inst.result)

abbrev pub phi_defined : ℕ → ℕ → Phi → List Triple
phi_defined b i phi = (b, phi.result.0, i) ∷ []

abbrev pub end_index : Block → ℕ
end_index block = length block.phis + length block.insts

abbrev pub block_used : ℕ → Block → List Triple
block_used b block =
    gather (inst_used b) (length block.phis) block.insts ++ marks b (end_index block) (term_reads block.term)

abbrev pub block_defined : ℕ → Block → List Triple
block_defined b block = gather (phi_defined b) 0 block.phis ++ gather (inst_defined b) (length block.phis) block.insts

abbrev pub edges_into : ℕ → List BlockId → List Triple
edges_into b ss = map (λ s. (s.0, 0, b)) ss

abbrev pub block_edges : ℕ → Block → List Triple
block_edges b block = edges_into b (edges block.term)

-- the use by a phi's entry, at the end of the block that the edge comes from, where there is such an edge
abbrev pub entry_used_at : Option Block → List Triple → ℕ → Operand × BlockId → List Triple
entry_used_at None es b e = []
entry_used_at (Some from) es b e = if holds es b 0 e.1.0 then marks e.1.0 (end_index from) (reads e.0) else []

abbrev pub entry_used : List Block → List Triple → ℕ → Operand × BlockId → List Triple
entry_used blocks es b e = entry_used_at (slice_get blocks e.1.0) es b e

abbrev pub entries_used : List Block → List Triple → ℕ → List (Operand × BlockId) → List Triple
entries_used blocks es b [] = []
entries_used blocks es b (e ∷ rest) = entry_used blocks es b e ++ entries_used blocks es b rest

abbrev pub phis_used : List Block → List Triple → ℕ → List Phi → List Triple
phis_used blocks es b [] = []
phis_used blocks es b (phi ∷ phis) = entries_used blocks es b phi.entries ++ phis_used blocks es b phis

abbrev pub block_phis_used : List Block → List Triple → ℕ → Block → List Triple
block_phis_used blocks es b block = phis_used blocks es b block.phis
