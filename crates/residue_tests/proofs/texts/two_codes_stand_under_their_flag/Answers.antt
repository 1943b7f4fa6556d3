use Rattle.residue_tests.proofs.Worked.{returning-valid}
use Rattle.residue_tests.proofs.texts.two_codes_stand_under_their_flag.Goals as goal

pub has_text-requires : goal.has_text-requires
has_text-requires g c = returning-valid c.in_ok-residue.residue c.in_ok-residue.ensures
