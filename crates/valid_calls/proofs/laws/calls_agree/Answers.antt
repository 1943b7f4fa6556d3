use Rattle.valid_calls.specs.Laws.{CallsAgree}
use Rattle.valid_calls.proofs.Whole.{calls-agree}
use Rattle.valid_calls.proofs.laws.calls_agree.Goals as goal

pub returns : goal.returns
unfolding CallsAgree
returns c p nodes r h = calls-agree p nodes r h c.steps_keep_configurations.ensures c.steps_issue_calls.ensures c.items_are_valid.ensures
