use Rattle.std.proofs.Common.{◌≡◌, length}
use Rattle.type_check.specs.code.Operands.{both, collected, seen_one}
use Rattle.type_check.proofs.scene.Scene.entries.Given as goal

abbrev pub invariant-loop-entries : goal.invariant-loop-entries
invariant-loop-entries l =
    both l.seen (collected (λ e. seen_one l.self.tree.now l.self.function.now (l.t, e.0)) l.entries) ≡ collected (λ e. seen_one l.self.tree.now l.self.function.now (l.t, e.0)) l.fn.entries

abbrev pub decreases-loop-entries : goal.decreases-loop-entries
decreases-loop-entries l = length l.entries
