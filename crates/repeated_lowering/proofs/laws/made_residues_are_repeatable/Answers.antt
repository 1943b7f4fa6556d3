use Rattle.repeated_lowering.proofs.Premises.{made-repeatable}
use Rattle.repeated_lowering.proofs.laws.made_residues_are_repeatable.Goals as goal

pub returns : goal.returns
returns c p f nodes limit base fit ok profile limited = made-repeatable p f nodes limit base fit ok profile limited
