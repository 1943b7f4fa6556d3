use Rattle.std.proofs.Common.{sym, ◌∙◌}
use Rattle.grammar.specs.Grammar.{alphabet}
use Rattle.grammar.proofs.Turns.{ignore_kept, ignore_ends}
use Rattle.grammar.proofs.cursor.Cursor.ignore.Goals as goal

pub loop-self-preserved : goal.loop-self-preserved
loop-self-preserved g c =
    let tokens = alphabet g.row.T-Rule.Denot g.T.Terminal.kind g.T.Terminal.code in
    ignore_kept {L = tokens} c.args.kinds.now c.loop-self.self.marked c.loop-self.self.rest.now _ _ _ _ (sym c.next_is_one_of.ensures ∙ c.loop-self-test.true) c.in_ok-take_one_of.ensures.gives c.loop-self.invariant

pub returns : goal.returns
returns g c =
    let tokens = alphabet g.row.T-Rule.Denot g.T.Terminal.kind g.T.Terminal.code in
    ignore_ends {L = tokens} c.args.kinds.now c.loop-self.self.marked c.loop-self.self.rest.now _ (sym c.next_is_one_of.ensures ∙ c.loop-self-test.false) c.loop-self.invariant
