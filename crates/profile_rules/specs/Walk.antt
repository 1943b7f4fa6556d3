-- The walk of the entry: from its first block along unconditional branches, until a block that ends otherwise or was met.
use Rattle.std.specs.Prelude.{ℕ, zero, suc, ◌==◌, ◌&&◌, ◌-◌, Bool, true, false, is_some, Option, None, Some, List, [], ◌∷◌, length, slice_get}
use Rattle.std.specs.List.{list_all, find}
use Rattle.ir_module.specs.declared.tree.Block.{Block}
use Rattle.ir_module.specs.declared.tree.Function.{Function}
use Rattle.ir_module.specs.declared.tree.Term.{Term}
use Rattle.ir_module.specs.declared.tree.Term.TheVariants as term
use Rattle.ir_module.specs.Tree.{blocks_of}
use Rattle.profile_rules.specs.Calls.{passes}

abbrev pub target_of_term : Term → Option ℕ
target_of_term (term.Br b) = Some b.0
target_of_term t = None

-- where a block's unconditional branch leads
abbrev pub target_of : Option Block → Option ℕ
target_of None = None
target_of (Some c) = target_of_term c.term

abbrev pub branch_from : List Block → Option ℕ → Option ℕ
branch_from blocks None = None
branch_from blocks (Some b) = target_of (slice_get blocks b)

-- the block after n unconditional branches from the first block
abbrev pub block_after : List Block → ℕ → Option ℕ
block_after blocks zero = Some 0
block_after blocks (suc n) = branch_from blocks (block_after blocks n)

abbrev pub numbers_from : ℕ → ℕ → List ℕ
numbers_from n zero = []
numbers_from n (suc k) = n ∷ numbers_from (suc n) k

-- the numbers of so many blocks
abbrev pub numbers_below : ℕ → List ℕ
numbers_below n = numbers_from 0 n

-- after how many branches the walk first meets the block; it meets no more blocks than there are
abbrev pub branches_to : List Block → ℕ → Option ℕ
branches_to blocks b = find (λ n. passes (block_after blocks n) (λ c. c == b)) (numbers_below (length blocks))

abbrev pub position_after : Option ℕ → ℕ
position_after None = 0
position_after (Some n) = suc n

-- the position of a block on the walk, counted from 1, and 0 of a block that isn't on it
abbrev pub walk_position : Function → ℕ → ℕ
walk_position f b = position_after (branches_to (blocks_of f) b)

abbrev pub is_return : Term → Bool
is_return term.RetVoid = true
is_return (term.Ret t a) = true
is_return t = false

-- the block of this number ends in a return
abbrev pub returns_at : List Block → ℕ → Bool
returns_at blocks b = passes (slice_get blocks b) (λ c. is_return c.term)

-- all blocks are on the walk, and its last one ends in a return
abbrev pub is_chain : List Block → Bool
is_chain blocks =
    list_all (λ b. is_some (branches_to blocks b)) (numbers_below (length blocks))
    && passes (block_after blocks (length blocks - 1)) (returns_at blocks)
