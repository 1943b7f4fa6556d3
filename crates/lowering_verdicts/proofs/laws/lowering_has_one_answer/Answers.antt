use Rattle.lowering_verdicts.proofs.Answers.{one-answer}
use Rattle.lowering_verdicts.proofs.laws.lowering_has_one_answer.Goals as goal

pub returns : goal.returns
returns c m t budget =
    one-answer c.live_names_are_told_in_one_way.ensures c.configurations_are_listed_in_one_way.ensures c.the_verdict_is_one.ensures m t budget
