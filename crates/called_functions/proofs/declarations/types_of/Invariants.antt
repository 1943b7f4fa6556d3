use Rattle.std.proofs.Common.{◌≡◌, ◌++◌, length}
use Rattle.residue.specs.Functions.{types_of}
use Rattle.called_functions.proofs.declarations.types_of.Given as goal

abbrev pub invariant-loop-args : goal.invariant-loop-args
invariant-loop-args l = l.types ++ types_of l.args ≡ types_of l.fn.args

abbrev pub decreases-loop-args : goal.decreases-loop-args
decreases-loop-args l = length l.args
