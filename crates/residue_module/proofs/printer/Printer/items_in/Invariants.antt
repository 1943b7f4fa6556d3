use Rattle.std.proofs.Common.{◌≡◌, ◌+◌, ◌≤◌, ◌++◌, true, length}
use Rattle.std.specs.List.{list_all}
use Rattle.residue.specs.Instructions.{print_items}
use Rattle.residue.specs.Phases.{in_phase}
use Rattle.residue.specs.Printed.{names_of_items}
use Rattle.residue.specs.Scopes.{item_uses, items_of}
use Rattle.residue_module.specs.code.Bodies.{phase_number}
use Rattle.residue_module.specs.code.Scenes.{are_small, at}
use Rattle.residue_module.proofs.printer.Printer.items_in.Given as goal

abbrev pub invariant-loop-line : goal.invariant-loop-line
invariant-loop-line l = record {
  insts : l.body.insts ++ print_items (at l.self) l.body.next (in_phase l.irreversible.keys (phase_number l.phase) (items_of l.lines)) ≡ print_items (at l.self) 0 (in_phase l.irreversible.keys (phase_number l.phase) (items_of l.fn.lines));
  room : l.body.next + length (names_of_items (items_of l.lines)) ≤ length (names_of_items (items_of l.fn.lines));
  small : list_all (λ x. are_small (at l.self) (item_uses x)) (items_of l.lines) ≡ true;
}

abbrev pub decreases-loop-line : goal.decreases-loop-line
decreases-loop-line l = length l.lines
