use Rattle.name_flow.proofs.Spreading.{IsSeeded-uncons}
use Rattle.name_flow.proofs.spread.seed.Goals as goal

pub loop-uses-preserved : goal.loop-uses-preserved
loop-uses-preserved c = λ last h. c.loop-uses.invariant last (IsSeeded-uncons c.args.defined.now (0, 0, 0) c.loop-uses.uses.now c.loop-uses.starts c.seed_use.new.starts last c.in-len1-up.len_at_least c.in_ok-seed_use.ensures h)
