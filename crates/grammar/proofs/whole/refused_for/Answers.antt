use Rattle.grammar.proofs.Top.{stop_holds, stop_short}
use Rattle.grammar.proofs.whole.refused_for.Goals as goal

pub refused-requires : goal.refused-requires
refused-requires g c = let p = c.args.part.now in let h = rw c.in-At.is at c.requires in stop_short (g.P.Part.grammar p) (g.P.Part.starts p).decided c.args.tokens.now c.in-At.fault c.in-At.rest.now h

pub returns-in-At : goal.returns-in-At
returns-in-At g c = let p = c.args.part.now in let h = rw c.in-At.is at c.requires in rw c.refused.ensures (stop_holds (g.P.Part.grammar p) (g.P.Part.starts p).decided c.args.tokens.now c.in-At.fault c.in-At.rest.now h)
