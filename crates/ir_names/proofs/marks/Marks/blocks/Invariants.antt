use Rattle.std.proofs.Common.{length, ◌≡◌, ◌++◌}
use Rattle.ir_module.specs.Places.{ComesAfter}
use Rattle.ir_module.specs.declared.places.Spot.TheVariants as spot
use Rattle.ir_names.specs.Places.{block_places}
use Rattle.ir_names.proofs.marks.Marks.blocks.Given as goal

abbrev pub invariant-loop-blocks : goal.invariant-loop-blocks
invariant-loop-blocks l =
    ComesAfter l.self.places (spot.At l.point) × (l.self.lines ≡ l.fn.self.lines) × (l.point.func ≡ l.fn.point.func)
    × (l.fn.self.places ++ block_places l.fn.self.lines l.fn.point l.fn.blocks ≡ l.self.places ++ block_places l.fn.self.lines l.point l.blocks)

abbrev pub decreases-loop-blocks : goal.decreases-loop-blocks
decreases-loop-blocks l = length l.blocks
