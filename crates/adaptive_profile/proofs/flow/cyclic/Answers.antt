use Rattle.adaptive_profile.proofs.Loops.{one-looked}
use Rattle.adaptive_profile.proofs.flow.cyclic.Goals as goal

pub loop-i-preserved : goal.loop-i-preserved
loop-i-preserved c = one-looked c.args.funcs.now c.loop-i.i c.loop-i.rows c.push.new.self c.at.result.now c.in_ok-row.row c.loop-i.invariant c.at.ensures c.in_ok-row.ensures c.in_ok-push.ensures.ok
