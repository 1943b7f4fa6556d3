use Rattle.std.proofs.Common.{◌≡◌, ◌++◌, ◌-◌}
use Rattle.returning_edges.specs.code.Split.{chosen_from}
use Rattle.returning_edges.proofs.answers.marked_edges.Given as goal

abbrev pub invariant-loop-source : goal.invariant-loop-source
invariant-loop-source l = l.found ++ chosen_from l.on l.split l.source (l.sources - l.source) ≡ chosen_from l.on l.split 0 l.sources
