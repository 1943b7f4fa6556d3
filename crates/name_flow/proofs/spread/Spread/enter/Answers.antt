use Rattle.name_flow.proofs.Spreading.{Enters-more}
use Rattle.name_flow.proofs.spread.Spread.enter.Goals as goal

pub loop-p-preserved : goal.loop-p-preserved
loop-p-preserved c = Enters-more c.args.defined.now c.args.edges.now c.args.b c.args.x c.args.self.now.starts c.args.self.now.ends c.loop-p.self.starts c.loop-p.self.ends c.add.new.self.starts c.add.new.self.ends c.loop-p.from c.in-Some.p c.in-Some.ensures.held c.loop-p.invariant c.in_ok-add.ensures
