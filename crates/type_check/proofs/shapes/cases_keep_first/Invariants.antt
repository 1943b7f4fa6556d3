use Rattle.std.proofs.Common.{◌≡◌, ◌++◌, ◌∷◌, [], length, map, not}
use Rattle.std.specs.List.{list_all}
use Rattle.type_check.specs.Rules.{is_first}
use Rattle.type_check.proofs.shapes.cases_keep_first.Given as goal

abbrev pub invariant-loop-cases : goal.invariant-loop-cases
invariant-loop-cases l = list_all (λ to. not (is_first to)) (map (λ c. c.1) l.cases ++ l.default ∷ []) ≡ list_all (λ to. not (is_first to)) (map (λ c. c.1) l.fn.cases ++ l.default ∷ [])

abbrev pub decreases-loop-cases : goal.decreases-loop-cases
decreases-loop-cases l = length l.cases
