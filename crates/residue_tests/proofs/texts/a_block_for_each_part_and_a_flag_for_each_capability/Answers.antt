use Rattle.residue_tests.proofs.Worked.{each-valid, ints-valid}
use Rattle.residue_tests.proofs.texts.a_block_for_each_part_and_a_flag_for_each_capability.Goals as goal

pub has_text-requires : goal.has_text-requires
has_text-requires g c = ints-valid c.in_ok-residue.residue c.in_ok-residue.ensures

pub has_text-requires-2 : goal.has_text-requires-2
has_text-requires-2 g c = each-valid c.in_ok-residue.residue c.in_ok-residue.ensures
