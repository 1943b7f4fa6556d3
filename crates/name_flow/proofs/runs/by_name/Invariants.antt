use Rattle.std.proofs.Common.{◌≡◌, ◌++◌, map, length}
use Rattle.name_flow.specs.code.Runs as spec
use Rattle.name_flow.proofs.runs.by_name.Given as goal

abbrev pub invariant-loop-uses : goal.invariant-loop-uses
invariant-loop-uses l = l.items ++ map spec.name_first l.uses ≡ map spec.name_first l.fn.uses

abbrev pub decreases-loop-uses : goal.decreases-loop-uses
decreases-loop-uses l = length l.uses
