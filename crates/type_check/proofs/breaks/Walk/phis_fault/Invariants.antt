use Rattle.std.proofs.Common.{◌≡◌, ◌+◌, ◌<◌, ◌^◌, length, map}
use Rattle.ir_module.specs.Steps.{PhiAt}
use Rattle.type_check.specs.code.Walk.{steps_of_walk}
use Rattle.type_check.proofs.breaks.Walk.phis_fault.Given as goal

abbrev pub invariant-loop-phis : goal.invariant-loop-phis
invariant-loop-phis l = record {
  room : l.index + length l.phis < 2 ^ 64;
  left : steps_of_walk l.self l.b l.index (map PhiAt l.phis) ≡ steps_of_walk l.fn.self l.fn.b l.fn.index (map PhiAt l.fn.phis);
}

abbrev pub decreases-loop-phis : goal.decreases-loop-phis
decreases-loop-phis l = length l.phis
