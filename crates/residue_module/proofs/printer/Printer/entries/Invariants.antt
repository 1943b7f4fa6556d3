use Rattle.std.proofs.Common.{◌≡◌, ◌+◌, [], true, length, map}
use Rattle.std.specs.List.{list_all}
use Rattle.residue.specs.Printed.{edges_of}
use Rattle.residue_module.specs.code.Edges.{EntersTo}
use Rattle.residue_module.specs.code.Scenes.{args_small, at}
use Rattle.residue_module.proofs.printer.Printer.entries.Given as goal

abbrev pub invariant-loop-part : goal.invariant-loop-part
invariant-loop-part l = record {
  count : l.from + length l.parts ≡ length l.fn.parts;
  small : list_all (args_small (at l.self)) l.parts ≡ true;
  edges : EntersTo (at l.self) (edges_of 0 l.fn.parts) (edges_of l.from l.parts) (map (λ p. map (λ x. []) p.params) l.fn.parts) l.rows;
}

abbrev pub decreases-loop-part : goal.decreases-loop-part
decreases-loop-part l = length l.parts
