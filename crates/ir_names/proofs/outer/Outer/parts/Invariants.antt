use Rattle.std.proofs.Common.{length, ◌≡◌, ◌++◌, map}
use Rattle.ir_names.specs.Metadata.{part_of}
use Rattle.ir_names.specs.code.Seen.{outside}
use Rattle.ir_names.proofs.outer.Outer.parts.Given as goal

abbrev pub invariant-loop-parts : goal.invariant-loop-parts
invariant-loop-parts l = map (part_of (outside l.self)) l.fn.parts ≡ l.out ++ map (part_of (outside l.self)) l.parts

abbrev pub decreases-loop-parts : goal.decreases-loop-parts
decreases-loop-parts l = length l.parts
