use Rattle.std.proofs.Common.{length, ◌≡◌, ◌++◌}
use Rattle.ir_module.specs.Places.{ComesAfter}
use Rattle.ir_module.specs.declared.places.Spot.TheVariants as spot
use Rattle.ir_names.specs.Places.{items_places}
use Rattle.ir_names.proofs.marks.Marks.items.Given as goal

abbrev pub invariant-loop-items : goal.invariant-loop-items
invariant-loop-items l =
    ComesAfter l.self.places (spot.Func l.func) × (l.self.lines ≡ l.fn.self.lines)
    × (l.fn.self.places ++ items_places l.fn.self.lines l.fn.func l.fn.items ≡ l.self.places ++ items_places l.fn.self.lines l.func l.items)

abbrev pub decreases-loop-items : goal.decreases-loop-items
decreases-loop-items l = length l.items
