use Rattle.std.proofs.Common.{◌≡◌, length}
use Rattle.type_check.specs.code.Arcs.{come_from}
use Rattle.type_check.proofs.phis.come_from.Given as goal

abbrev pub invariant-loop-blocks : goal.invariant-loop-blocks
invariant-loop-blocks l = come_from l.blocks l.arcs ≡ come_from l.fn.blocks l.fn.arcs

abbrev pub decreases-loop-blocks : goal.decreases-loop-blocks
decreases-loop-blocks l = length l.blocks
