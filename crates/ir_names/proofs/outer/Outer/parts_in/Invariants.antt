use Rattle.std.proofs.Common.{length, ◌≡◌, ◌++◌}
use Rattle.std.specs.Option.{option_map}
use Rattle.ir_names.specs.Metadata.{parts_in}
use Rattle.ir_names.specs.code.Seen.{outside}
use Rattle.ir_names.proofs.outer.Outer.parts_in.Given as goal

abbrev pub invariant-loop-elems : goal.invariant-loop-elems
invariant-loop-elems l = parts_in (outside l.self) l.fn.elems ≡ option_map (λ ps. l.out ++ ps) (parts_in (outside l.self) l.elems)

abbrev pub decreases-loop-elems : goal.decreases-loop-elems
decreases-loop-elems l = length l.elems
