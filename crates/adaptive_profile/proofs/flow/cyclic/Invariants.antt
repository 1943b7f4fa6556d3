use Rattle.adaptive_profile.proofs.Loops.{IsLooked}
use Rattle.adaptive_profile.proofs.flow.cyclic.Given as goal

abbrev pub invariant-loop-i : goal.invariant-loop-i
invariant-loop-i l = IsLooked l.funcs l.i l.rows
