use Rattle.printed_residue.proofs.Lines.{at-item}
use Rattle.printed_residue.proofs.laws.items_run.Goals as goal

pub returns : goal.returns
returns c r caps n p q x ds st v good is_part is_line at = at-item r caps good n p is_part q x ds st v is_line at
