use Rattle.std.proofs.Common.{sym, ◌∙◌}
use Rattle.residue_module.specs.code.Scenes.{at}
use Rattle.residue_module.proofs.Bodies.{line-comes, line-comes-next, rest-small}
use Rattle.residue_module.proofs.printer.Printer.lines.Goals as goal

pub loop-line-preserved : goal.loop-line-preserved
loop-line-preserved c = record {
  insts = sym (line-comes (at c.args.self.now) c.loop-line.lines.now c.in-Some.rest.now c.in-Some.line.now c.loop-line.body c.line.new.body c.in-Some.ensures.cases.0 c.in_ok-line.ensures) ∙ c.loop-line.invariant.insts;
  next = sym (line-comes-next (at c.args.self.now) c.loop-line.lines.now c.in-Some.rest.now c.in-Some.line.now c.loop-line.body c.line.new.body c.in-Some.ensures.cases.0 c.in_ok-line.ensures) ∙ c.loop-line.invariant.next;
  small = rest-small (at c.args.self.now) c.loop-line.lines.now c.in-Some.rest.now c.in-Some.line.now c.in-Some.ensures.cases.0 c.loop-line.invariant.small;
}
