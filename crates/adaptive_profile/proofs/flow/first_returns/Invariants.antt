use Rattle.std.proofs.Common.{◌≡◌, ◌++◌, map, length}
use Rattle.ir_module.specs.declared.tree.Function.{Function}
use Rattle.ir_module.specs.Tree.{blocks_of}
use Rattle.adaptive_profile.specs.code.Returns.{first_return}
use Rattle.adaptive_profile.proofs.flow.first_returns.Given as goal

abbrev pub invariant-loop-funcs : goal.invariant-loop-funcs
invariant-loop-funcs l = l.firsts ++ map (λ (f : Function). first_return (blocks_of f)) l.funcs ≡ map (λ (f : Function). first_return (blocks_of f)) l.fn.funcs

abbrev pub decreases-loop-funcs : goal.decreases-loop-funcs
decreases-loop-funcs l = length l.funcs
