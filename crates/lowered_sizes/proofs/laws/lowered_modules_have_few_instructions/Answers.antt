use Rattle.lowered_sizes.proofs.Sizes.{few-instructions}
use Rattle.lowered_sizes.proofs.laws.lowered_modules_have_few_instructions.Goals as goal

pub returns : goal.returns
returns c m nodes flags part_of shared r t e = few-instructions m nodes flags part_of shared r t e
