use Rattle.std.proofs.Common.{arith}
use Rattle.base_profile.proofs.Walks.{unmet, placed}
use Rattle.base_profile.proofs.walk.positions.Goals as goal

pub loop-rest-init : goal.loop-rest-init
loop-rest-init c = record {
  below = omega arith;
  positions = unmet c.args.blocks.now c.args.walk.now c.in_ok-positions.positions c.requires c.in_ok-positions.ensures;
}

pub loop-rest-preserved : goal.loop-rest-preserved
loop-rest-preserved c =
    let below = c.loop-rest.invariant.below in
    record {
      below = omega (arith, below);
      positions = placed c.args.blocks.now c.args.walk.now c.requires c.loop-rest.rest c.loop-rest.positions c.place.new.positions c.loop-rest-test.true below c.loop-rest.invariant.positions c.place.ensures;
    }
