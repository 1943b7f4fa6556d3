use Rattle.std.proofs.Common.{◌≡◌, ◌++◌, ◌+◌, ◌<◌, ◌^◌, length}
use Rattle.type_check.specs.code.Arcs as spec
use Rattle.type_check.proofs.arcs.push_arcs.Given as goal

abbrev pub invariant-loop-blocks : goal.invariant-loop-blocks
invariant-loop-blocks l = record { sum : l.arcs ++ spec.arcs l.n l.blocks ≡ l.fn.arcs ++ spec.arcs l.fn.n l.fn.blocks; fits : l.n + length l.blocks < 2 ^ 32 }

abbrev pub decreases-loop-blocks : goal.decreases-loop-blocks
decreases-loop-blocks l = length l.blocks
