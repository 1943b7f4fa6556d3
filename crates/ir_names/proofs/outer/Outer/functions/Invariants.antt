use Rattle.std.proofs.Common.{length, ◌≡◌, ◌++◌}
use Rattle.std.specs.List.{filter_map}
use Rattle.ir_names.specs.Items.{items_faults, function_in}
use Rattle.ir_names.specs.code.Seen.{outside}
use Rattle.ir_names.proofs.outer.Outer.functions.Given as goal

abbrev pub invariant-loop-items : goal.invariant-loop-items
invariant-loop-items l =
    (items_faults (outside l.self) l.fn.before l.fn.items ≡ items_faults (outside l.self) l.before l.items)
    × (filter_map (function_in (outside l.self)) l.fn.items ≡ l.out ++ filter_map (function_in (outside l.self)) l.items)

abbrev pub decreases-loop-items : goal.decreases-loop-items
decreases-loop-items l = length l.items
