use Rattle.printed_residue.proofs.BaseLines.{base-returns}
use Rattle.printed_residue.proofs.laws.base_returns_run.Goals as goal

pub returns : goal.returns
returns c r p a ds st v good is_parts e at = base-returns r good p is_parts a ds st v e at
