-- The walk of the entry as a list, and the positions of blocks on it.
use Rattle.std.specs.Prelude.{◌≡◌, ℕ, ◌==◌, ◌<◌, ◌≤◌, List, [], ◌∷◌, ◌++◌, length, slice_get, Option, None, Some}
use Rattle.std.specs.List.{find}
use Rattle.ir_module.specs.declared.tree.Block.{Block}
use Rattle.profile_rules.specs.Calls.{passes}
use Rattle.profile_rules.specs.Walk.{block_after, branches_to, numbers_from, position_after, target_of}

-- the walk goes on from a block, if it is at one
abbrev pub Advances : List Block → Option ℕ → List ℕ → List ℕ → Option ℕ → Type 0
Advances blocks None old new after = (new ≡ old) × (after ≡ None)
Advances blocks (Some b) old new after = (new ≡ old ++ b ∷ []) × (after ≡ target_of (slice_get blocks b))

-- the first blocks that the walk meets, as many as there are blocks, or all of them
pub record IsWalked (blocks : List Block) (walk : List ℕ) : Type 0 where
  pub few : length walk ≤ length blocks
  pub at : (n : ℕ) → n < length blocks → slice_get walk n ≡ block_after blocks n

-- of the numbers from n on, so many, the first after which the walk is at the block
abbrev pub first_after : List Block → ℕ → ℕ → ℕ → Option ℕ
first_after blocks n count b = find (λ k. passes (block_after blocks k) (λ c. c == b)) (numbers_from n count)

-- of each block its position on the walk, where only that from n on is looked at
pub record ArePositionsFrom (blocks : List Block) (n count : ℕ) (positions : List ℕ) : Type 0 where
  pub sized : length positions ≡ length blocks
  pub exact : (b : ℕ) → b < length blocks → slice_get positions b ≡ Some (position_after (first_after blocks n count b))

pub record ArePositions (blocks : List Block) (positions : List ℕ) : Type 0 where
  pub sized : length positions ≡ length blocks
  pub exact : (b : ℕ) → b < length blocks → slice_get positions b ≡ Some (position_after (branches_to blocks b))
