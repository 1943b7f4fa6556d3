use Rattle.std.proofs.Common.{sym, ◌∙◌}
use Rattle.grammar.proofs.Top.{all_holds, more_holds, got_short, no_length, some_length}
use Rattle.grammar.proofs.whole.read_all.Goals as goal

pub returns-then-is_empty : goal.returns-then-is_empty
returns-then-is_empty g c = let p = c.args.part.now in all_holds (g.P.Part.grammar p) (g.P.Part.starts p).decided c.args.tokens.now _ _ _ c.in-Ok.ensures (no_length _ (sym c.is_empty.ensures ∙ c.if-is_empty.true))

pub returns-else-is_empty : goal.returns-else-is_empty
returns-else-is_empty g c = let p = c.args.part.now in rw c.refused.ensures (more_holds (g.P.Part.grammar p) (g.P.Part.starts p).decided c.args.tokens.now _ _ _ c.in-Ok.ensures (some_length _ (sym c.is_empty.ensures ∙ c.if-is_empty.false)))

pub refused-requires : goal.refused-requires
refused-requires g c = let p = c.args.part.now in got_short (g.P.Part.grammar p) (g.P.Part.starts p).decided c.args.tokens.now _ _ _ c.in-Ok.ensures
