use Rattle.std.proofs.Common.{◌≡◌, ◌+◌, ◌<◌, ◌^◌, length}
use Rattle.ir_module.specs.Tree.{blocks_of}
use Rattle.type_check.specs.code.Phis.{AreLeft}
use Rattle.type_check.specs.code.Walk.{blocks_of_walk}
use Rattle.type_check.proofs.breaks.Walk.blocks_fault.Given as goal

abbrev pub invariant-loop-blocks : goal.invariant-loop-blocks
invariant-loop-blocks l = record {
  room : l.b + length l.blocks < 2 ^ 32;
  arcs : AreLeft (blocks_of l.self.scene.function.now) l.b l.arcs;
  left : blocks_of_walk l.self l.b l.blocks ≡ blocks_of_walk l.fn.self l.fn.b l.fn.blocks;
}

abbrev pub decreases-loop-blocks : goal.decreases-loop-blocks
decreases-loop-blocks l = length l.blocks
