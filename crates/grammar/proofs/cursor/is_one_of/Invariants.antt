use Rattle.std.proofs.Common.{◌≡◌, length}
use Rattle.grammar.specs.Grammar.{alphabet, has}
use Rattle.grammar.proofs.cursor.is_one_of.Given as goal

-- the kinds that are left decide
abbrev pub invariant-loop-kinds : goal.invariant-loop-kinds
invariant-loop-kinds g l =
    let tokens = alphabet g.row.T-Rule.Denot g.T.Terminal.kind g.T.Terminal.code in
    has tokens l.kinds (g.T.Terminal.kind l.fn.token) ≡ has tokens l.fn.kinds (g.T.Terminal.kind l.fn.token)

abbrev pub decreases-loop-kinds : goal.decreases-loop-kinds
decreases-loop-kinds g l = length l.kinds
