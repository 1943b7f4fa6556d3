use Rattle.std.proofs.Common.{arith}
use Rattle.step_parts.proofs.Packs.{counted_on}
use Rattle.step_parts.proofs.frames.push_counted.Goals as goal

pub loop-n-preserved : goal.loop-n-preserved
loop-n-preserved c = record {
  numbers = counted_on _ _ c.push.new.self c.loop-n.n c.args.count (omega arith) c.loop-n.invariant.numbers (grind arith);
  within = omega arith;
}
