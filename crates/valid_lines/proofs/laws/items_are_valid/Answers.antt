use Rattle.valid_lines.proofs.Whole.{items-are-valid}
use Rattle.valid_lines.proofs.laws.items_are_valid.Goals as goal

pub returns : goal.returns
returns c p nodes flags part_of shared r steps parts = items-are-valid p nodes flags part_of shared r steps parts
