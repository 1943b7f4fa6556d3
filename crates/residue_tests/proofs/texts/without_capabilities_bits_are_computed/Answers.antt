use Rattle.residue_tests.proofs.Worked.{plain-valid}
use Rattle.residue_tests.proofs.texts.without_capabilities_bits_are_computed.Goals as goal

pub has_text-requires : goal.has_text-requires
has_text-requires g c = plain-valid c.in_ok-residue.residue c.in_ok-residue.ensures
