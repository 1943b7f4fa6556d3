-- The lowered module of an admitted module is valid and sound.
use Rattle.std.proofs.Common.{ap, refl}
use Rattle.lowered_runs.specs.Laws.{IsAdmitted}
use Rattle.valid_steps.specs.Laws.{StepsKeepConfigurations}
use Rattle.sound_lowering.specs.Laws.{LoweredIsSound, LoweredIsValid}
use Rattle.sound_lowering.specs.Programs.{number_of_entry, program_by, source_limit}
use Rattle.sound_lowering.specs.code.Rules.{RulesHold}
use Rattle.sound_lowering.proofs.Good.{fits-profile, good, made, prints, valid}
use Rattle.sound_lowering.proofs.Keeping.{leads}
use Rattle.sound_lowering.proofs.Sound.{AreProved, sound}

pub is-valid : RulesHold → StepsKeepConfigurations → LoweredIsValid
is-valid rules steps m t budget live e nodes permitted room =
    valid rules m t budget live e nodes permitted (leads steps m t live permitted.numbered permitted.typed e permitted.is_entry) room

pub is-sound : AreProved → RulesHold → StepsKeepConfigurations → LoweredIsSound
is-sound laws rules steps m t budget live e nodes permitted room =
    let lead = leads steps m t live permitted.numbered permitted.typed e permitted.is_entry in
    let admitted : IsAdmitted (program_by m t live) source_limit e = record {
      numbered = permitted.numbered;
      typed = permitted.typed;
      is_entry = permitted.is_entry;
      entry = ap number_of_entry permitted.is_entry;
      qubits = refl;
      results = refl;
      live = permitted.is_test.tells;
    } in
    sound m t live e budget nodes admitted permitted.explored laws lead permitted.within permitted.small
    (made rules m t budget live e nodes permitted lead) room.codes (good rules m t budget live e nodes permitted lead room)
    (fits-profile rules m t budget live e nodes permitted lead) (prints rules m t budget live e nodes permitted lead room)
