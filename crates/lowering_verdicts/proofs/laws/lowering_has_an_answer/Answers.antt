use Rattle.lowering_verdicts.proofs.Answers.{answer}
use Rattle.lowering_verdicts.proofs.laws.lowering_has_an_answer.Goals as goal

pub returns : goal.returns
returns c m t budget numbered typed =
    answer c.live_names_can_be_told.ensures c.every_program_has_a_verdict.ensures c.admitted_modules_start.ensures c.steps_keep_configurations.ensures m t budget numbered typed
