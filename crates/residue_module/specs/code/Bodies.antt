-- The instructions of a block so far.
use Rattle.std.specs.Prelude.{◌≡◌, ℕ, ◌+◌, ◌++◌, Bool, true, false, List, length}
use Rattle.ir_module.specs.declared.tree.Inst.{Inst}
use Rattle.kept_items.specs.declared.item.Item.{Item}
use Rattle.residue.specs.Instructions.{Words, instructions, names_of_item, print_items}
use Rattle.residue.specs.Printed.{names_of_items}
use Rattle.residue_module.specs.declared.body.Body.{Body}
use Rattle.residue_module.specs.declared.phases.Phase.{Phase}
use Rattle.residue_module.specs.declared.phases.Phase.TheVariants.{Reversible, Irreversible, Records}

-- these instructions stand behind, and define so many local names
pub record Adds (more : List Inst) (names : ℕ) (old new : Body) : Type 0 where
  pub insts : new.insts ≡ old.insts ++ more
  pub next : new.next ≡ old.next + names

abbrev pub Prints : Words → Item → Body → Body → Type 0
Prints ws x old new = Adds (instructions ws old.next x) (length (names_of_item x)) old new

abbrev pub PrintsAll : Words → List Item → Body → Body → Type 0
PrintsAll ws xs old new = Adds (print_items ws old.next xs) (length (names_of_items xs)) old new

-- ---- the Base Profile's order

abbrev pub phase_number : Phase → ℕ
phase_number Reversible = 1
phase_number Irreversible = 2
phase_number Records = 3

-- the instructions of an item where it stands in the block, and nothing else
abbrev pub PrintsIf : Bool → Words → Item → Body → Body → Type 0
PrintsIf true ws x old new = Prints ws x old new
PrintsIf false ws x old new = new ≡ old
