use Rattle.base_profile.proofs.Walks.{IsUnderway}
use Rattle.base_profile.proofs.walk.walk.Given as goal

abbrev pub invariant-loop-n : goal.invariant-loop-n
invariant-loop-n l = IsUnderway l.blocks l._n l.walk l.next
