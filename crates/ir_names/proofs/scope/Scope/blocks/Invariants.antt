use Rattle.std.proofs.Common.{length, ◌≡◌, ◌++◌}
use Rattle.ir_names.specs.Blocks.{blocks_faults, blocks_of}
use Rattle.ir_names.specs.code.Seen.{seen}
use Rattle.ir_names.proofs.scope.Scope.blocks.Given as goal

abbrev pub invariant-loop-blocks : goal.invariant-loop-blocks
invariant-loop-blocks l =
    (blocks_faults (seen l.self) l.unnamed l.fn.values l.fn.labels l.fn.blocks ≡ blocks_faults (seen l.self) l.unnamed l.values l.labels l.blocks)
    × (blocks_of (seen l.self) l.unnamed l.fn.values l.fn.blocks ≡ l.out ++ blocks_of (seen l.self) l.unnamed l.values l.blocks)

abbrev pub decreases-loop-blocks : goal.decreases-loop-blocks
decreases-loop-blocks l = length l.blocks
