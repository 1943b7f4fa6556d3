use Rattle.std.proofs.Common.{◌≡◌, length}
use Rattle.lowered_program.specs.Residues.{greater, greatest}
use Rattle.lowered_program.proofs.required.greatest.Given as goal

abbrev pub invariant-loop-rest : goal.invariant-loop-rest
invariant-loop-rest l = record {
  allocated : greatest (λ g. g.allocated) l.nodes ≡ greater l.allocated (greatest (λ g. g.allocated) l.rest);
  returned : greatest (λ g. g.returned) l.nodes ≡ greater l.returned (greatest (λ g. g.returned) l.rest);
}

abbrev pub decreases-loop-rest : goal.decreases-loop-rest
decreases-loop-rest l = length l.rest
