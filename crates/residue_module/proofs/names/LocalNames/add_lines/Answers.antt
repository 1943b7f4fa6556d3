use Rattle.residue.specs.Printed.{names_of_items}
use Rattle.residue.specs.Scopes.{items_of}
use Rattle.residue_module.proofs.Named.{line-adds, lines-done}
use Rattle.residue_module.proofs.names.LocalNames.add_lines.Goals as goal

pub loop-line-preserved : goal.loop-line-preserved
loop-line-preserved c =
    line-adds (names_of_items (items_of c.args.lines.now)) c.loop-line.lines.now c.in-Some.rest.now c.in-Some.line.now c.args.self.now c.loop-line.self c.add_line.new.self
    c.in-Some.ensures.cases.0 c.in_ok-add_line.ensures c.loop-line.invariant

pub returns : goal.returns
returns c = lines-done (names_of_items (items_of c.args.lines.now)) c.loop-line.lines.now c.args.self.now c.loop-line.self c.in_default.ensures.cases c.loop-line.invariant
