use Rattle.std.proofs.Common.{length, ◌≡◌, ◌++◌, map}
use Rattle.ir_module.specs.Places.{ComesAfter}
use Rattle.ir_module.specs.declared.places.Spot.TheVariants as spot
use Rattle.ir_names.specs.Places.{points, line_token}
use Rattle.ir_names.specs.code.Marked.{behind}
use Rattle.ir_names.proofs.marks.Marks.insts.Given as goal

abbrev pub invariant-loop-insts : goal.invariant-loop-insts
invariant-loop-insts l =
    ComesAfter l.self.places (spot.At l.point) × (l.self.lines ≡ l.fn.self.lines)
    × (behind l.fn.point (map line_token l.fn.insts) ≡ behind l.point (map line_token l.insts))
    × (l.fn.self.places ++ points l.fn.self.lines l.fn.point (map line_token l.fn.insts) ≡ l.self.places ++ points l.fn.self.lines l.point (map line_token l.insts))

abbrev pub decreases-loop-insts : goal.decreases-loop-insts
decreases-loop-insts l = length l.insts
