use Rattle.program_verdicts.proofs.Verdicts.{is-listed-once}
use Rattle.program_verdicts.proofs.laws.configurations_are_listed_in_one_way.Goals as goal

pub returns : goal.returns
returns c p budget xs ys a b = is-listed-once p budget xs ys a b
