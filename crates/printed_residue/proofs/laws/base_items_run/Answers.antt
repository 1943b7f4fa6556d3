use Rattle.printed_residue.proofs.BaseLines.{base-item-does}
use Rattle.printed_residue.proofs.laws.base_items_run.Goals as goal

pub returns : goal.returns
returns c r p q x ds st v good is_parts is_line at = base-item-does r good p is_parts q x is_line ds st v at
