use Rattle.std.proofs.Common.{arith}
use Rattle.std.proofs.lemmas.Grind.{common_steps}
use Rattle.ir_values.specs.declared.ids.BlockId.{BlockId}
use Rattle.adaptive_profile.proofs.Lists.{map-take-more}
use Rattle.adaptive_profile.proofs.flow.numbers.Goals as goal

pub loop-i-preserved : goal.loop-i-preserved
loop-i-preserved c =
    let e = map-take-more (λ (b : BlockId). b.0) c.args.edges.now c.loop-i.i c.at.result c.at.ensures in
    rw e (grind (arith, common_steps))
