use Rattle.std.proofs.Common.{◌+◌, ◌<◌, length, arith, refl, ◌∙◌}
use Rattle.residue.specs.Instructions.{block_number}
use Rattle.residue_module.specs.code.Edges.{entered}
use Rattle.residue_module.specs.code.Scenes.{at}
use Rattle.residue_module.proofs.Entering.{enters-long, enters-one}
use Rattle.residue_module.proofs.printer.Printer.enter.Goals as goal

pub loop-index-preserved : goal.loop-index-preserved
loop-index-preserved c =
    let t = c.loop-index-test.true in
    let n = c.len.ensures in
    let lt : c.loop-index.index < length c.loop-index.row = omega (arith, t, n) in
    record {
      whole = enters-one (at c.args.self.now) (block_number c.args.from) c.args.args.now (entered (at c.args.self.now) (block_number c.args.from) c.args.args.now 0 c.args.row.now) c.loop-index.row c.add.new.self
          c.loop-index.index (c.loop-index.index + 1) c.in_ok-operand.operand c.in_ok-operand.ensures lt c.in_ok-add.ensures refl c.loop-index.invariant.whole;
      many = enters-long (at c.args.self.now) (block_number c.args.from) c.args.args.now c.loop-index.row c.add.new.self c.loop-index.index c.in_ok-operand.operand lt c.in_ok-add.ensures ∙ c.loop-index.invariant.many;
    }
