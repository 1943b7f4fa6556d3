use Rattle.std.proofs.Common.{◌+◌, refl, sym, subst, arith}
use Rattle.std.proofs.lemmas.Grind.{common_steps}
use Rattle.ir_module.specs.Tree.{blocks_of}
use Rattle.type_check.specs.code.Phis.{AreLeft, LeadInto}
use Rattle.type_check.proofs.ArcsLeft.{front-leads, others-left}
use Rattle.type_check.proofs.breaks.Walk.blocks_fault.Goals as goal

pub block_fault-requires-clause-into : goal.block_fault-requires-clause-into
block_fault-requires-clause-into c =
    let blocks = blocks_of c.args.self.now.scene.function.now in
    subst (LeadInto blocks c.loop-blocks.b) (sym c.split.ensures.front) (front-leads blocks c.loop-blocks.b c.loop-blocks.arcs.now c.loop-blocks.invariant.arcs)

pub loop-blocks-preserved : goal.loop-blocks-preserved
loop-blocks-preserved c =
    let blocks = blocks_of c.args.self.now.scene.function.now in
    record {
      room = omega arith;
      arcs = subst (AreLeft blocks (c.loop-blocks.b + 1)) (sym c.split.ensures.others) (others-left blocks c.loop-blocks.b c.loop-blocks.arcs.now c.loop-blocks.invariant.arcs (c.loop-blocks.b + 1) refl);
      left = grind (arith, common_steps);
    }
