use Rattle.std.proofs.Common.{◌≡◌, ◌++◌, map, flat_map, length}
use Rattle.ir_module.specs.declared.tree.Function.{Function}
use Rattle.ir_module.specs.Steps.{steps_of}
use Rattle.profile_rules.specs.Adaptive.{number_called}
use Rattle.adaptive_profile.proofs.flow.call_graph.Given as goal

abbrev pub invariant-loop-funcs : goal.invariant-loop-funcs
invariant-loop-funcs l = l.graph ++ map (λ (f : Function). flat_map number_called (steps_of f)) l.funcs ≡ map (λ (f : Function). flat_map number_called (steps_of f)) l.fn.funcs

abbrev pub decreases-loop-funcs : goal.decreases-loop-funcs
decreases-loop-funcs l = length l.funcs
