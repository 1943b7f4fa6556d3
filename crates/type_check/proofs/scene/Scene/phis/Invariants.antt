use Rattle.std.proofs.Common.{◌≡◌, length}
use Rattle.ir_module.specs.Steps.{PhiAt}
use Rattle.type_check.specs.code.Operands.{both, collected, seen_at}
use Rattle.type_check.proofs.scene.Scene.phis.Given as goal

abbrev pub invariant-loop-phis : goal.invariant-loop-phis
invariant-loop-phis l = both l.seen (collected (λ p. seen_at l.self.tree.now l.self.function.now (PhiAt p)) l.phis) ≡ collected (λ p. seen_at l.self.tree.now l.self.function.now (PhiAt p)) l.fn.phis

abbrev pub decreases-loop-phis : goal.decreases-loop-phis
decreases-loop-phis l = length l.phis
