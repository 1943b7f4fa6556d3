-- The first block of a function that ends in a return.
use Rattle.std.specs.Prelude.{ℕ, suc, List, [], ◌∷◌, if◌then◌else◌}
use Rattle.ir_module.specs.declared.tree.Block.{Block}
use Rattle.profile_rules.specs.Walk.{is_return}

-- its number, and where no block does the number of blocks
abbrev pub first_return : List Block → ℕ
first_return [] = 0
first_return (c ∷ cs) = if is_return c.term then 0 else suc (first_return cs)
