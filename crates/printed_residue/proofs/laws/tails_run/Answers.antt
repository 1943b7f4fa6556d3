use Rattle.printed_residue.proofs.Ends.{tails-run, to, to-is}
use Rattle.printed_residue.proofs.laws.tails_run.Goals as goal

pub returns : goal.returns
returns c r caps n p j ds ds' st v good is_part at h =
    (to r caps good n p is_part ds st v at j h, to-is r caps good n p is_part ds st v at j h, λ carries. tails-run r caps good n p is_part ds st v at j h ds' carries)
