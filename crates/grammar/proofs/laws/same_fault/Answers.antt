use Rattle.grammar.proofs.Same as theory
use Rattle.grammar.proofs.laws.same_fault.Goals as goal

pub returns : goal.returns
returns g c = theory.same_fault _ g.G.Language.grammar g.G.Language.decided
