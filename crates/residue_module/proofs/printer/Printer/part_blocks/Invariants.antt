use Rattle.std.proofs.Common.{◌≡◌, ◌+◌, ◌++◌, true, length}
use Rattle.std.specs.List.{list_all}
use Rattle.std.specs.Vec.Iter.{into_iter_items}
use Rattle.residue.specs.Printed.{edges_of, names_of}
use Rattle.residue_module.specs.code.Blocks.{part_blocks}
use Rattle.residue_module.specs.code.Edges.{rows_from}
use Rattle.residue_module.specs.code.Scenes.{at, items_small, tail_small}
use Rattle.residue_module.proofs.printer.Printer.part_blocks.Given as goal

abbrev pub invariant-loop-part : goal.invariant-loop-part
invariant-loop-part l = record {
  whole : l.blocks ++ part_blocks (at l.self) (edges_of 0 l.fn.parts) l.number l.first l.parts ≡ part_blocks (at l.self) (edges_of 0 l.fn.parts) 0 0 l.fn.parts;
  entries : into_iter_items l.rows ≡ rows_from (at l.self) (edges_of 0 l.fn.parts) l.number l.parts;
  count : l.number + length l.parts ≡ length l.fn.parts;
  room : l.first + length (names_of l.parts) ≡ length (names_of l.fn.parts);
  items : list_all (items_small (at l.self)) l.parts ≡ true;
  tails : list_all (tail_small (at l.self)) l.parts ≡ true;
}

abbrev pub decreases-loop-part : goal.decreases-loop-part
decreases-loop-part l = length l.parts
