use Rattle.std.proofs.Common.{List, length}
use Rattle.name_flow.specs.code.Runs.{AddsNames}
use Rattle.name_flow.specs.code.Triples.{Triple}
use Rattle.name_flow.proofs.runs.push_names.Given as goal

-- the names that are still to come make the whole
abbrev pub invariant-loop-uses : goal.invariant-loop-uses
invariant-loop-uses l = (last : List Triple) → AddsNames l.defined l.edges l.uses l.runs last → AddsNames l.defined l.edges l.fn.uses l.fn.runs last

abbrev pub decreases-loop-uses : goal.decreases-loop-uses
decreases-loop-uses l = length l.uses
