use Rattle.std.proofs.Common.{length, ◌≡◌, ◌++◌}
use Rattle.ir_names.specs.Module.{constants_of}
use Rattle.ir_names.specs.code.Held.{HoldsConstants}
use Rattle.ir_names.proofs.globals.Defined.of.Given as goal

abbrev pub invariant-loop-items : goal.invariant-loop-items
invariant-loop-items l = HoldsConstants l.defined × (constants_of l.text l.fn.items ≡ l.defined.list ++ constants_of l.text l.items)

abbrev pub decreases-loop-items : goal.decreases-loop-items
decreases-loop-items l = length l.items
