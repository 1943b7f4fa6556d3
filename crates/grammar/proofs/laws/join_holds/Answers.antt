use Rattle.grammar.proofs.Joined as theory
use Rattle.grammar.proofs.laws.join_holds.Goals as goal

pub returns : goal.returns
returns g c = theory.join_right _ g.G.TwoGrammars.first g.G.TwoGrammars.second g.G.TwoGrammars.decided.0 g.G.TwoGrammars.decided.1
