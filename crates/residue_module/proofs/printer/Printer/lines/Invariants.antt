use Rattle.std.proofs.Common.{◌≡◌, ◌+◌, ◌++◌, true, length}
use Rattle.std.specs.List.{list_all}
use Rattle.residue.specs.Instructions.{print_items}
use Rattle.residue.specs.Printed.{names_of_items}
use Rattle.residue.specs.Scopes.{item_uses, items_of}
use Rattle.residue_module.specs.code.Scenes.{are_small, at}
use Rattle.residue_module.proofs.printer.Printer.lines.Given as goal

abbrev pub invariant-loop-line : goal.invariant-loop-line
invariant-loop-line l = record {
  insts : l.body.insts ++ print_items (at l.self) l.body.next (items_of l.lines) ≡ l.fn.body.insts ++ print_items (at l.self) l.fn.body.next (items_of l.fn.lines);
  next : l.body.next + length (names_of_items (items_of l.lines)) ≡ l.fn.body.next + length (names_of_items (items_of l.fn.lines));
  small : list_all (λ x. are_small (at l.self) (item_uses x)) (items_of l.lines) ≡ true;
}

abbrev pub decreases-loop-line : goal.decreases-loop-line
decreases-loop-line l = length l.lines
