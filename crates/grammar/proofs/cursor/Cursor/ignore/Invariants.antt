use Rattle.std.proofs.Common.{◌≡◌, length}
use Rattle.grammar.specs.Grammar.{alphabet, ignored}
use Rattle.grammar.specs.code.Reading.{read}
use Rattle.grammar.proofs.cursor.Cursor.ignore.Given as goal

-- what is left gives the same
abbrev pub invariant-loop-self : goal.invariant-loop-self
invariant-loop-self g l =
    let tokens = alphabet g.row.T-Rule.Denot g.T.Terminal.kind g.T.Terminal.code in
    read {L = tokens} (ignored l.kinds) l.self.marked l.self.rest.now ≡ read {L = tokens} (ignored l.fn.kinds) l.fn.self.marked l.fn.self.rest.now

abbrev pub decreases-loop-self : goal.decreases-loop-self
decreases-loop-self g l = length l.self.rest.now
