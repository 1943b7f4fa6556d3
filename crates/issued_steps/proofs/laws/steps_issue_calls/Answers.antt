use Rattle.issued_steps.specs.Laws.{StepsIssueCalls}
use Rattle.issued_steps.proofs.Whole.{issues-calls}
use Rattle.issued_steps.proofs.laws.steps_issue_calls.Goals as goal

pub returns : goal.returns
unfolding StepsIssueCalls
returns c m limit t live entry g numbered typed h = issues-calls m limit t live entry g numbered typed c.class_tells_types.ensures h
