use Rattle.std.proofs.Common.{◌≡◌, ◌+◌, ◌<◌, ◌^◌, length, map}
use Rattle.ir_module.specs.Steps.{InstAt}
use Rattle.type_check.specs.code.Walk.{steps_of_walk}
use Rattle.type_check.proofs.breaks.Walk.insts_fault.Given as goal

abbrev pub invariant-loop-insts : goal.invariant-loop-insts
invariant-loop-insts l = record {
  room : l.index + length l.insts < 2 ^ 64;
  left : steps_of_walk l.self l.b l.index (map InstAt l.insts) ≡ steps_of_walk l.fn.self l.fn.b l.fn.index (map InstAt l.fn.insts);
}

abbrev pub decreases-loop-insts : goal.decreases-loop-insts
decreases-loop-insts l = length l.insts
