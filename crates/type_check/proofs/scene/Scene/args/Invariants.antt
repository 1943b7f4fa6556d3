use Rattle.std.proofs.Common.{◌≡◌, length}
use Rattle.type_check.specs.code.Operands.{both, collected, seen_one}
use Rattle.type_check.proofs.scene.Scene.args.Given as goal

abbrev pub invariant-loop-args : goal.invariant-loop-args
invariant-loop-args l = both l.seen (collected (seen_one l.self.tree.now l.self.function.now) l.args) ≡ collected (seen_one l.self.tree.now l.self.function.now) l.fn.args

abbrev pub decreases-loop-args : goal.decreases-loop-args
decreases-loop-args l = length l.args
