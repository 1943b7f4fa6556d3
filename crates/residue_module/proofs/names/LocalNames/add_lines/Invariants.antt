use Rattle.std.proofs.Common.{length}
use Rattle.residue.specs.Printed.{names_of_items}
use Rattle.residue.specs.Scopes.{items_of}
use Rattle.residue_module.specs.code.Names.{AddsTo}
use Rattle.residue_module.proofs.names.LocalNames.add_lines.Given as goal

abbrev pub invariant-loop-line : goal.invariant-loop-line
invariant-loop-line l = AddsTo (names_of_items (items_of l.fn.lines)) (names_of_items (items_of l.lines)) l.fn.self l.self

abbrev pub decreases-loop-line : goal.decreases-loop-line
decreases-loop-line l = length l.lines
