use Rattle.printed_residue.proofs.Ends.{returns-run}
use Rattle.printed_residue.proofs.laws.returns_run.Goals as goal

pub returns : goal.returns
returns c r caps n p a ds st v good is_part e at = returns-run r caps good n p is_part ds st v at a e
