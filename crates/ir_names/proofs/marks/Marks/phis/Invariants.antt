use Rattle.std.proofs.Common.{length, ◌≡◌, ◌++◌, map}
use Rattle.ir_module.specs.Places.{ComesAfter}
use Rattle.ir_module.specs.declared.places.Spot.TheVariants as spot
use Rattle.ir_names.specs.Places.{points, phi_token}
use Rattle.ir_names.specs.code.Marked.{behind}
use Rattle.ir_names.proofs.marks.Marks.phis.Given as goal

abbrev pub invariant-loop-phis : goal.invariant-loop-phis
invariant-loop-phis l =
    ComesAfter l.self.places (spot.At l.point) × (l.self.lines ≡ l.fn.self.lines)
    × (behind l.fn.point (map phi_token l.fn.phis) ≡ behind l.point (map phi_token l.phis))
    × (l.fn.self.places ++ points l.fn.self.lines l.fn.point (map phi_token l.fn.phis) ≡ l.self.places ++ points l.fn.self.lines l.point (map phi_token l.phis))

abbrev pub decreases-loop-phis : goal.decreases-loop-phis
decreases-loop-phis l = length l.phis
