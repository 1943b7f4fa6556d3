use Rattle.std.proofs.Common.{◌≡◌, ◌++◌, map, length}
use Rattle.type_check.specs.code.Operands.{signature_of}
use Rattle.type_check.proofs.signatures.signatures.Given as goal

abbrev pub invariant-loop-funcs : goal.invariant-loop-funcs
invariant-loop-funcs l = l.signatures ++ map signature_of l.funcs ≡ map signature_of l.fn.funcs

abbrev pub decreases-loop-funcs : goal.decreases-loop-funcs
decreases-loop-funcs l = length l.funcs
