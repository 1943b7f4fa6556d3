use Rattle.std.proofs.Common.{◌≡◌, ◌++◌, map, length}
use Rattle.profile_rules.specs.Calls.{declared_class}
use Rattle.findings.proofs.callees.classes.Given as goal

abbrev pub invariant-loop-funcs : goal.invariant-loop-funcs
invariant-loop-funcs l = l.classes ++ map declared_class l.funcs ≡ map declared_class l.fn.funcs

abbrev pub decreases-loop-funcs : goal.decreases-loop-funcs
decreases-loop-funcs l = length l.funcs
