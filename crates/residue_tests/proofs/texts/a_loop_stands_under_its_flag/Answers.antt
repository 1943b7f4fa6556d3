use Rattle.residue_tests.proofs.Worked.{looping-valid}
use Rattle.residue_tests.proofs.texts.a_loop_stands_under_its_flag.Goals as goal

pub has_text-requires : goal.has_text-requires
has_text-requires g c = looping-valid c.in_ok-residue.residue c.in_ok-residue.ensures
