use Rattle.std.proofs.Common.{length, ◌≡◌}
use Rattle.std.specs.List.{flat_map}
use Rattle.ir_names.specs.Metadata.{elem_faults}
use Rattle.ir_names.specs.code.Seen.{outside}
use Rattle.ir_names.proofs.outer.Outer.elems.Given as goal

abbrev pub invariant-loop-elems : goal.invariant-loop-elems
invariant-loop-elems l = flat_map (elem_faults (outside l.self)) l.fn.elems ≡ flat_map (elem_faults (outside l.self)) l.elems

abbrev pub decreases-loop-elems : goal.decreases-loop-elems
decreases-loop-elems l = length l.elems
