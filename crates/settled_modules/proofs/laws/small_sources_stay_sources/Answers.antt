use Rattle.settled_modules.proofs.Sources.{small-stay}
use Rattle.settled_modules.proofs.laws.small_sources_stay_sources.Goals as goal

pub returns : goal.returns
returns c m t budget l h a b = small-stay c.lowered_programs_fit.ensures c.printed_is_typed.ensures m t budget l h a b
