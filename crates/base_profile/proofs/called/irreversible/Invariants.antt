use Rattle.std.proofs.Common.{◌≡◌, ◌++◌, map, length}
use Rattle.profile_rules.specs.Calls.{is_irreversible}
use Rattle.base_profile.proofs.called.irreversible.Given as goal

abbrev pub invariant-loop-funcs : goal.invariant-loop-funcs
invariant-loop-funcs l = l.marks ++ map is_irreversible l.funcs ≡ map is_irreversible l.fn.funcs

abbrev pub decreases-loop-funcs : goal.decreases-loop-funcs
decreases-loop-funcs l = length l.funcs
