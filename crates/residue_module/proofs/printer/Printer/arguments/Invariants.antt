use Rattle.std.proofs.Common.{◌≡◌, ◌++◌, true, length, map}
use Rattle.residue.specs.Instructions.{typed_operand}
use Rattle.residue_module.specs.code.Scenes.{are_small, at}
use Rattle.residue_module.proofs.printer.Printer.arguments.Given as goal

abbrev pub invariant-loop-args : goal.invariant-loop-args
invariant-loop-args l = record {
  whole : l.operands ++ map (typed_operand (at l.self)) l.args ≡ map (typed_operand (at l.self)) l.fn.args;
  small : are_small (at l.self) l.args ≡ true;
}

abbrev pub decreases-loop-args : goal.decreases-loop-args
decreases-loop-args l = length l.args
