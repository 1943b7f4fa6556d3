use Rattle.std.proofs.Common.{◌≡◌, ◌++◌, length}
use Rattle.finding_lines.specs.Lines.{finding_lines, HavePlaces}
use Rattle.finding_lines.proofs.lines.push_findings.Given as goal

abbrev pub invariant-loop-found : goal.invariant-loop-found
invariant-loop-found l = record {
  sum : l.text ++ finding_lines l.letter l.places l.found ≡ l.fn.text ++ finding_lines l.letter l.places l.fn.found;
  placed : HavePlaces l.places l.found;
}

abbrev pub decreases-loop-found : goal.decreases-loop-found
decreases-loop-found l = length l.found
