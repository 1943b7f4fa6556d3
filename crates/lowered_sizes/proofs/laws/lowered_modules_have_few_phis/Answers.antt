use Rattle.lowered_sizes.proofs.Sizes.{few-phis}
use Rattle.lowered_sizes.proofs.laws.lowered_modules_have_few_phis.Goals as goal

pub returns : goal.returns
returns c m nodes flags part_of shared r t e = few-phis m nodes flags part_of shared r t e
