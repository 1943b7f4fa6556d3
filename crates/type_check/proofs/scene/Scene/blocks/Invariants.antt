use Rattle.std.proofs.Common.{◌≡◌, length}
use Rattle.ir_module.specs.Steps.{steps_of_block}
use Rattle.type_check.specs.code.Operands.{both, collected, seen_at}
use Rattle.type_check.proofs.scene.Scene.blocks.Given as goal

abbrev pub invariant-loop-blocks : goal.invariant-loop-blocks
invariant-loop-blocks l = both l.seen (collected (λ b. collected (seen_at l.self.tree.now l.self.function.now) (steps_of_block b)) l.blocks) ≡ collected (λ b. collected (seen_at l.self.tree.now l.self.function.now) (steps_of_block b)) l.fn.blocks

abbrev pub decreases-loop-blocks : goal.decreases-loop-blocks
decreases-loop-blocks l = length l.blocks
