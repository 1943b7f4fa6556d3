use Rattle.equal_shots.specs.Laws.{LoweredShotsAreEqual, ShotsAreEqual}
use Rattle.equal_shots.proofs.laws.lowered_shots_are_equal.Goals as goal
use Rattle.sound_lowering.specs.Programs.{naming_of, source_limit}
use Rattle.sound_lowering.specs.Sound.{lowered_limit}

pub returns : goal.returns
unfolding LoweredShotsAreEqual ShotsAreEqual
returns c m t budget nodes l numbered typed sound =
    c.shots_are_equal.ensures m l (naming_of m) budget source_limit lowered_limit
    (record {
      numbered = numbered;
      typed = typed;
      lowered_numbered = sound.numbered;
      lowered_typed = sound.typed;
      same = sound.same;
      apart = sound.apart;
    })
