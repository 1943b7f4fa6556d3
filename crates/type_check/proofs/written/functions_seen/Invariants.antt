use Rattle.std.proofs.Common.{◌≡◌, length}
use Rattle.type_check.specs.code.Operands.{both, collected, seen_in}
use Rattle.type_check.proofs.written.functions_seen.Given as goal

abbrev pub invariant-loop-funcs : goal.invariant-loop-funcs
invariant-loop-funcs l = both l.seen (collected (seen_in l.tree) l.funcs) ≡ collected (seen_in l.tree) l.fn.funcs

abbrev pub decreases-loop-funcs : goal.decreases-loop-funcs
decreases-loop-funcs l = length l.funcs
