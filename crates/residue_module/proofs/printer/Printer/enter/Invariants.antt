use Rattle.std.proofs.Common.{◌≡◌, ◌-◌, ◌++◌, length, take, drop}
use Rattle.residue.specs.Instructions.{block_number}
use Rattle.residue_module.specs.code.Edges.{entered}
use Rattle.residue_module.specs.code.Scenes.{at}
use Rattle.residue_module.proofs.printer.Printer.enter.Given as goal

abbrev pub invariant-loop-index : goal.invariant-loop-index
invariant-loop-index l = record {
  whole : take l.index l.row ++ entered (at l.self) (block_number l.from) l.args l.index (drop l.index l.row) ≡ entered (at l.self) (block_number l.from) l.args 0 l.fn.row;
  many : length l.row ≡ length l.fn.row;
}

abbrev pub decreases-loop-index : goal.decreases-loop-index
decreases-loop-index l = length l.fn.row - l.index
