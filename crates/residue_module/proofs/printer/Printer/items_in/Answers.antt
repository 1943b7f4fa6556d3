use Rattle.std.proofs.Common.{length, sym, ◌∙◌}
use Rattle.residue.specs.Printed.{names_of_items}
use Rattle.residue.specs.Scopes.{items_of}
use Rattle.residue_module.specs.code.Bodies.{phase_number}
use Rattle.residue_module.specs.code.Scenes.{at}
use Rattle.residue_module.proofs.Bodies.{line-in-comes, line-in-room, rest-small}
use Rattle.residue_module.proofs.printer.Printer.items_in.Goals as goal

pub loop-line-preserved : goal.loop-line-preserved
loop-line-preserved c = record {
  insts = sym (line-in-comes (at c.args.self.now) c.args.irreversible.now.keys (phase_number c.args.phase) c.loop-line.lines.now c.in-Some.rest.now c.in-Some.line.now c.loop-line.body c.line_in.new.body c.in-Some.ensures.cases.0 c.in_ok-line_in.ensures) ∙ c.loop-line.invariant.insts;
  room = line-in-room (at c.args.self.now) c.args.irreversible.now.keys (phase_number c.args.phase) c.loop-line.lines.now c.in-Some.rest.now c.in-Some.line.now c.loop-line.body c.line_in.new.body (length (names_of_items (items_of c.args.lines.now))) c.in-Some.ensures.cases.0 c.in_ok-line_in.ensures c.loop-line.invariant.room;
  small = rest-small (at c.args.self.now) c.loop-line.lines.now c.in-Some.rest.now c.in-Some.line.now c.in-Some.ensures.cases.0 c.loop-line.invariant.small;
}
