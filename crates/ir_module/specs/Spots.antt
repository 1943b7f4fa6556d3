-- The parts of a module that a fault is told at, in the order of its text.
use Rattle.std.specs.Prelude.{ℕ, zero, suc, ◌+◌, List, [], ◌∷◌, ◌++◌, length}
use Rattle.ir_module.specs.declared.places.Point.{Point}
use Rattle.ir_module.specs.declared.places.Spot.{Spot}
use Rattle.ir_module.specs.declared.places.Spot.TheVariants as spot
use Rattle.ir_module.specs.declared.tree.Block.{Block}
use Rattle.ir_module.specs.declared.tree.Function.{Function}
use Rattle.ir_module.specs.declared.tree.Module.{Module}
use Rattle.ir_module.specs.Tree.{blocks_of}

abbrev pub point_at : ℕ → ℕ → ℕ → Point
point_at f b i = record { func = record { 0 = f }; block = record { 0 = b }; index = i }

-- so many points of a block, from an index on
abbrev pub points_from : ℕ → ℕ → ℕ → ℕ → List Spot
points_from f b i zero = []
points_from f b i (suc n) = spot.At (point_at f b i) ∷ points_from f b (suc i) n

-- a point for each phi, each instruction and the terminator
abbrev pub block_spots : ℕ → ℕ → Block → List Spot
block_spots f b block = points_from f b 0 (suc (length block.phis + length block.insts))

abbrev pub blocks_spots : ℕ → ℕ → List Block → List Spot
blocks_spots f b [] = []
blocks_spots f b (block ∷ blocks) = block_spots f b block ++ blocks_spots f (suc b) blocks

-- the function itself and its points
abbrev pub function_spots : ℕ → Function → List Spot
function_spots f function = spot.Func (record { 0 = f }) ∷ blocks_spots f 0 (blocks_of function)

abbrev pub functions_spots : ℕ → List Function → List Spot
functions_spots f [] = []
functions_spots f (function ∷ functions) = function_spots f function ++ functions_spots (suc f) functions

-- the spots of a module
abbrev pub spots : Module → List Spot
spots m = spot.Module ∷ functions_spots 0 m.funcs
