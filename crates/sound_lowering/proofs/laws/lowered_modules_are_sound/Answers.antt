use Rattle.sound_lowering.proofs.Sound.{AreProved}
use Rattle.sound_lowering.proofs.Whole.{is-sound}
use Rattle.sound_lowering.proofs.laws.lowered_modules_are_sound.Goals as goal

pub returns : goal.returns
returns c m t budget live e nodes permitted room =
    let laws : AreProved = record {
      adaptive = c.adaptive_lowering_keeps_behaviour.ensures;
      base = c.base_lowering_keeps_behaviour.ensures;
      numbered = c.printed_is_numbered.ensures;
      typed = c.printed_is_typed.ensures;
      passes = c.printed_passes.ensures;
      stuck = c.admitted_modules_run.ensures;
      fits = c.admitted_modules_are_kept_apart.ensures;
      instructions = c.lowered_modules_have_few_instructions.ensures;
      phis = c.lowered_modules_have_few_phis.ensures;
    } in
    is-sound laws c.rules_hold.ensures c.steps_keep_configurations.ensures m t budget live e nodes permitted room
