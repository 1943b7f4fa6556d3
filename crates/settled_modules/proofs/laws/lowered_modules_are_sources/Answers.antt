use Rattle.settled_modules.proofs.Sources.{are-sources}
use Rattle.settled_modules.proofs.laws.lowered_modules_are_sources.Goals as goal

pub returns : goal.returns
returns c m t budget l h = are-sources c.lowered_programs_fit.ensures c.printed_is_typed.ensures m t budget l h
