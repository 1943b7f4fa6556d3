use Rattle.settled_modules.proofs.Again.{stays}
use Rattle.settled_modules.proofs.laws.lowered_base_modules_stay.Goals as goal

pub returns : goal.returns
returns c m budget l second k h typed lowered =
    stays c.lowered_programs_fit.ensures c.base_is_repeated.ensures c.made_residues_are_repeatable.ensures m budget l second k h typed lowered
