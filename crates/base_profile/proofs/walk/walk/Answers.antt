use Rattle.base_profile.proofs.Walks.{advanced}
use Rattle.base_profile.proofs.walk.walk.Goals as goal

pub loop-n-preserved : goal.loop-n-preserved
loop-n-preserved c = advanced c.args.blocks.now c.loop-n._n c.loop-n.walk c.advance.new.walk c.loop-n.next c.in_ok-next.next c.loop-n.invariant c.in_ok-next.ensures
