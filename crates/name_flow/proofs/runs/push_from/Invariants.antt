use Rattle.std.proofs.Common.{◌≡◌, ◌++◌, length}
use Rattle.name_flow.specs.code.Runs as spec
use Rattle.name_flow.proofs.runs.push_from.Given as goal

abbrev pub invariant-loop-blocks : goal.invariant-loop-blocks
invariant-loop-blocks l = l.runs ++ spec.runs_from l.run l.blocks ≡ l.fn.runs ++ spec.runs_from l.fn.run l.fn.blocks

abbrev pub decreases-loop-blocks : goal.decreases-loop-blocks
decreases-loop-blocks l = length l.blocks
