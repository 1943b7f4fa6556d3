use Rattle.residue_tests.proofs.Worked.{base-valid}
use Rattle.residue_tests.proofs.texts.base_stands_in_four_blocks.Goals as goal

pub has_text-requires : goal.has_text-requires
has_text-requires g c = base-valid c.in_ok-residue.residue c.in_ok-residue.ensures
