use Rattle.grammar.proofs.Answer as theory
use Rattle.grammar.proofs.laws.answers_exactly.Goals as goal

pub returns : goal.returns
returns g c = theory.answers_exactly _ g.G.Language.grammar g.G.Language.decided
