use Rattle.valid_calls.specs.Laws.{NumbersAreSmall}
use Rattle.valid_calls.proofs.Whole.{numbers-small}
use Rattle.valid_calls.proofs.laws.numbers_are_small.Goals as goal

pub returns : goal.returns
unfolding NumbersAreSmall
returns c p nodes r h s = numbers-small p nodes r h c.steps_keep_configurations.ensures c.steps_issue_calls.ensures s
