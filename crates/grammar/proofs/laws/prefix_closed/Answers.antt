use Rattle.grammar.proofs.Answer as theory
use Rattle.grammar.proofs.laws.prefix_closed.Goals as goal

pub returns : goal.returns
returns g c = theory.prefix_closed _ g.G.Language.grammar g.G.Language.decided
