use Rattle.sound_lowering.proofs.Whole.{is-valid}
use Rattle.sound_lowering.proofs.laws.lowered_programs_are_valid.Goals as goal

pub returns : goal.returns
returns c m t budget live e nodes permitted room =
    is-valid c.rules_hold.ensures c.steps_keep_configurations.ensures m t budget live e nodes permitted room
