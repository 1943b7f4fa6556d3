use Rattle.std.proofs.Common.{◌≡◌, ◌++◌, length}
use Rattle.static_steps.specs.Edges.{case_values}
use Rattle.control_steps.proofs.branches.case_values.Given as goal

abbrev pub invariant-loop-rest : goal.invariant-loop-rest
invariant-loop-rest l = case_values l.cases ≡ l.out ++ case_values l.rest

abbrev pub decreases-loop-rest : goal.decreases-loop-rest
decreases-loop-rest l = length l.rest
