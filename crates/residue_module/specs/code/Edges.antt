-- The entries of phis, which come edge by edge.
use Rattle.std.specs.Prelude.{◌≡◌, ℕ, suc, ◌==◌, List, [], ◌∷◌, ◌++◌, filter, slice_index_or}
use Rattle.ir_module.specs.declared.tree.Operand.{Operand}
use Rattle.ir_module.specs.declared.tree.Phi.{Phi}
use Rattle.ir_values.specs.declared.ids.BlockId.{BlockId}
use Rattle.ir_values.specs.declared.int.Width.{Width}
use Rattle.ir_values.specs.declared.value.Value.TheVariants as value
use Rattle.kept_items.specs.declared.val.Dyn.{Dyn}
use Rattle.kept_items.specs.declared.val.Val.{Val}
use Rattle.kept_items.specs.declared.val.Val.TheVariants.{Known}
use Rattle.residue.specs.declared.parts.Jump.{Jump}
use Rattle.residue.specs.declared.parts.Part.{Part}
use Rattle.residue.specs.Instructions.{Words, local, operand_of}
use Rattle.residue.specs.Printed.{entries}

-- the entries of a phi, and those of the phis of a part
abbrev pub Entries : Type 0
Entries = List (Operand × BlockId)

abbrev pub Row : Type 0
Row = List Entries

-- the argument for a parameter
abbrev pub argument_at : List Val → ℕ → Val
argument_at args i = slice_index_or args i (Known value.NoLabel)

-- the entries for parameters from number i on
abbrev pub row_from : Words → List (ℕ × Jump) → ℕ → List (Dyn × Width) → Row
row_from ws edges i [] = []
row_from ws edges i (x ∷ params) = entries ws i edges ∷ row_from ws edges (suc i) params

-- of these edges those that lead to a part
abbrev pub leading_to : ℕ → List (ℕ × Jump) → List (ℕ × Jump)
leading_to n edges = filter (λ e. e.1.to == n) edges

-- a row for each part, from number n on
abbrev pub rows_from : Words → List (ℕ × Jump) → ℕ → List Part → List Row
rows_from ws edges n [] = []
rows_from ws edges n (p ∷ parts) = row_from ws (leading_to n edges) 0 p.params ∷ rows_from ws edges (suc n) parts

-- with one entry more for each parameter from number i on
abbrev pub entered : Words → BlockId → List Val → ℕ → Row → Row
entered ws from args i [] = []
entered ws from args i (es ∷ row) = (es ++ (operand_of ws (argument_at args i), from) ∷ []) ∷ entered ws from args (suc i) row

-- the rows for some edges become those for some more
abbrev pub Enters : Words → List (ℕ × Jump) → List Row → List Row → Type 0
Enters ws more old new = (edges : List (ℕ × Jump)) (parts : List Part) → old ≡ rows_from ws edges 0 parts → new ≡ rows_from ws (edges ++ more) 0 parts

-- with what is left the rows come to the whole
abbrev pub EntersTo : Words → List (ℕ × Jump) → List (ℕ × Jump) → List Row → List Row → Type 0
EntersTo ws whole left old now = (new : List Row) → Enters ws left now new → Enters ws whole old new

-- phis with these entries, whose local names begin with n
abbrev pub phis_from : ℕ → Row → List Phi
phis_from n [] = []
phis_from n (es ∷ row) = (record { result = local n; entries = es }) ∷ phis_from (suc n) row
