use Rattle.std.proofs.Common.{arith}
use Rattle.fused_parts.specs.Nodes.{frames_widths}
use Rattle.fused_parts.proofs.BottomUp.{one-frame}
use Rattle.fused_parts.proofs.widths.widths_of.Goals as goal

pub loop-left-preserved : goal.loop-left-preserved
loop-left-preserved c = record {
  inside = let i = c.loop-left.invariant.inside in omega (arith, i);
  whole = one-frame c.args.m.now c.args.config.now.below c.loop-left.left c.at.result.now (frames_widths c.args.m.now c.args.config.now.below) c.loop-left.widths c.push_frame.new.widths
      (let t = c.loop-left-test.true in omega (arith, t)) c.at.ensures c.loop-left.invariant.whole c.in_ok-push_frame.ensures;
}
