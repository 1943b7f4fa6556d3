use Rattle.std.proofs.Common.{◌≡◌, [], ◌++◌, length, map}
use Rattle.residue_module.proofs.rows.Row.new.Given as goal

abbrev pub invariant-loop-params : goal.invariant-loop-params
invariant-loop-params l = l.lists.items ++ map (λ x. []) l.params ≡ map (λ x. []) l.fn.params

abbrev pub decreases-loop-params : goal.decreases-loop-params
decreases-loop-params l = length l.params
