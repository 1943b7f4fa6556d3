use Rattle.grammar.proofs.Answer as theory
use Rattle.grammar.proofs.laws.holds_once.Goals as goal

pub returns : goal.returns
returns g c = theory.holds_once _ g.G.Language.grammar g.G.Language.decided
