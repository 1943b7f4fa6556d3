-- The size of a lowered module.
use Rattle.std.specs.Prelude.{◌≡◌, ℕ, suc, ◌+◌, ◌*◌, ◌≤◌, Bool, Option, None, Some, List, [], ◌∷◌, ◌++◌, length}
use Rattle.ir_module.specs.declared.tree.Block.{Block}
use Rattle.ir_module.specs.declared.tree.Function.{Function}
use Rattle.ir_module.specs.declared.tree.Module.{Module}
use Rattle.kept_items.specs.declared.target.Target.{Target}
use Rattle.residue.specs.declared.parts.Residue.{Residue}
use Rattle.residue.specs.Printed.{printed}
use Rattle.static_steps.specs.Works.{dynamics_of}
use Rattle.fused_parts.specs.Nodes.{Node}
use Rattle.fused_parts.specs.Parts.{parts_of}
use Rattle.lowered_program.specs.Residues.{greater, greatest}

abbrev pub body : Option (List Block) → List Block
body None = []
body (Some blocks) = blocks

abbrev pub bodies : List Function → List Block
bodies [] = []
bodies (f ∷ fs) = body f.blocks ++ bodies fs

-- how many instructions blocks have that aren't phis, the terminators among them
abbrev pub count_instructions : List Block → ℕ
count_instructions [] = 0
count_instructions (b ∷ bs) = suc (length b.insts) + count_instructions bs

abbrev pub instructions : Module → ℕ
instructions m = count_instructions (bodies m.funcs)

-- the greatest number of phis that one block has
abbrev pub count_phis : List Block → ℕ
count_phis [] = 0
count_phis (b ∷ bs) = greater (length b.phis) (count_phis bs)

abbrev pub most_phis : Module → ℕ
most_phis m = count_phis (bodies m.funcs)

-- a lowered module has at most four instructions for each configuration, and sixteen more
abbrev pub HasFewInstructions : Type 0
HasFewInstructions =
    (m : Module) (nodes : List Node) (flags : List Bool) (part_of : ℕ → ℕ) (shared : Option ℕ) (r : Residue) (t : Target)
    → r.parts ≡ parts_of m part_of shared nodes flags
    → instructions (printed r t) ≤ 4 * length nodes + 16

-- and no block has more phis than some configuration has Dynamic names
abbrev pub HasFewPhis : Type 0
HasFewPhis =
    (m : Module) (nodes : List Node) (flags : List Bool) (part_of : ℕ → ℕ) (shared : Option ℕ) (r : Residue) (t : Target)
    → r.parts ≡ parts_of m part_of shared nodes flags
    → most_phis (printed r t) ≤ greatest dynamics_of nodes
