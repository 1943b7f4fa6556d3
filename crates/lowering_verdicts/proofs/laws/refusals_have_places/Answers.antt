use Rattle.lowering_verdicts.proofs.Placed.{refusal-placed}
use Rattle.lowering_verdicts.proofs.laws.refusals_have_places.Goals as goal

pub returns : goal.returns
returns c m t budget at kind numbered typed h =
    refusal-placed c.admitted_modules_start.ensures c.steps_keep_configurations.ensures m t budget at kind numbered typed h
