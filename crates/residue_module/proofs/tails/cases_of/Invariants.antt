use Rattle.std.proofs.Common.{◌≡◌, ◌++◌, length, map}
use Rattle.residue.specs.Instructions.{block_number}
use Rattle.residue_module.proofs.tails.cases_of.Given as goal

abbrev pub invariant-loop-cases : goal.invariant-loop-cases
invariant-loop-cases l = l.out ++ map (λ c. (c.0, block_number c.1.to)) l.cases ≡ map (λ c. (c.0, block_number c.1.to)) l.fn.cases

abbrev pub decreases-loop-cases : goal.decreases-loop-cases
decreases-loop-cases l = length l.cases
