use Rattle.residue_tests.proofs.Worked.{switching-valid}
use Rattle.residue_tests.proofs.texts.a_switch_stands_under_its_flag.Goals as goal

pub has_text-requires : goal.has_text-requires
has_text-requires g c = switching-valid c.in_ok-residue.residue c.in_ok-residue.ensures
