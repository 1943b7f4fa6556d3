use Rattle.program_verdicts.proofs.Verdicts.{has-verdict}
use Rattle.program_verdicts.proofs.laws.every_program_has_a_verdict.Goals as goal

pub returns : goal.returns
returns c p budget keeps = has-verdict c.every_search_has_a_verdict.ensures p budget keeps
