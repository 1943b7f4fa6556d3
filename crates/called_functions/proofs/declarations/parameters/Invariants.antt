use Rattle.std.proofs.Common.{◌≡◌, ◌+◌, ◌++◌, length}
use Rattle.residue.specs.Functions.{parameters}
use Rattle.called_functions.proofs.declarations.parameters.Given as goal

abbrev pub invariant-loop-types : goal.invariant-loop-types
invariant-loop-types l = (l.number + length l.types ≡ length l.fn.types) × (l.locals ++ parameters l.number l.types ≡ parameters 0 l.fn.types)

abbrev pub decreases-loop-types : goal.decreases-loop-types
decreases-loop-types l = length l.types
