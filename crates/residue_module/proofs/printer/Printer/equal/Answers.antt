use Rattle.std.proofs.lemmas.Result.{on_ok_weaker}
use Rattle.residue_module.specs.code.Scenes.{at}
use Rattle.residue_module.proofs.Bodies.{equal-printed}
use Rattle.residue_module.proofs.printer.Printer.equal.Goals as goal

pub returns : goal.returns
returns c = on_ok_weaker c.define.result (λ e d.
    equal-printed (at c.args.self.now) d c.args.left.now c.args.right.now c.args.body.now c.read_side.new.body c.read_side-2.new.body c.define.new.self c.side_operand-first.result c.side_operand-second.result
    c.side_operand-first.ensures c.side_operand-second.ensures c.in_ok-read_side.ensures c.in_ok-read_side-2.ensures e) c.define.ensures
