use Rattle.std.proofs.Common.{◌≡◌, length}
use Rattle.ir_module.specs.Steps.{InstAt}
use Rattle.type_check.specs.code.Operands.{both, collected, seen_at}
use Rattle.type_check.proofs.scene.Scene.insts.Given as goal

abbrev pub invariant-loop-insts : goal.invariant-loop-insts
invariant-loop-insts l = both l.seen (collected (λ i. seen_at l.self.tree.now l.self.function.now (InstAt i)) l.insts) ≡ collected (λ i. seen_at l.self.tree.now l.self.function.now (InstAt i)) l.fn.insts

abbrev pub decreases-loop-insts : goal.decreases-loop-insts
decreases-loop-insts l = length l.insts
