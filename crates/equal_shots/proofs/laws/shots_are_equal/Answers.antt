use Rattle.equal_shots.specs.Laws.{ShotsAreEqual}
use Rattle.equal_shots.proofs.Equal.{AreProved, back, cut-back, cut-forth, equal, forth}
use Rattle.equal_shots.proofs.laws.shots_are_equal.Goals as goal

pub returns : goal.returns
unfolding ShotsAreEqual
returns c m l N W limit limit' alike =
    let laws : AreProved = record {
      stays = c.ended_runs_stay.ensures;
      one_shot = c.shots_are_one.ensures;
      operations = c.renaming_keeps_operations.ensures;
      fits = c.renaming_keeps_fits.ensures;
    } in
    record {
      equal = λ b n k x y p q over over'. equal laws m l N W limit limit' alike b n k x y p q over over';
      forth = λ b n x s over. forth laws m l N W limit limit' alike b n x s over;
      back = λ b n y s over. back laws m l N W limit limit' alike b n y s over;
      cut_forth = λ b n x y p q cut. cut-forth laws m l N W limit limit' alike b n x y p q cut;
      cut_back = λ b n x y q p cut. cut-back laws m l N W limit limit' alike b n x y q p cut;
    }
