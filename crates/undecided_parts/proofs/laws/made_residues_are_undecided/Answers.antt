use Rattle.undecided_parts.proofs.Parts.{made-undecided}
use Rattle.undecided_parts.proofs.laws.made_residues_are_undecided.Goals as goal

pub returns : goal.returns
returns c p entry budget nodes explored = made-undecided p entry budget nodes explored
