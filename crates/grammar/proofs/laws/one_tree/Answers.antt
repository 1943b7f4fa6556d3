use Rattle.grammar.proofs.Answer as theory
use Rattle.grammar.proofs.laws.one_tree.Goals as goal

pub returns : goal.returns
returns g c = theory.one_tree _ g.G.Language.grammar g.G.Language.decided
