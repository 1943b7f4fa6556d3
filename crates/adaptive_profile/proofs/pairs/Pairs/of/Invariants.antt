use Rattle.std.proofs.Common.{◌≡◌, ℕ, ◌||◌, length}
use Rattle.adaptive_profile.specs.code.Pairs.{holds}
use Rattle.adaptive_profile.proofs.pairs.Pairs.of.Given as goal

-- what is held and what is to come are the whole
abbrev pub invariant-loop-list : goal.invariant-loop-list
invariant-loop-list l = (p : ℕ × ℕ) → (holds l.pairs p || holds l.list p) ≡ holds l.fn.list p

abbrev pub decreases-loop-list : goal.decreases-loop-list
decreases-loop-list l = length l.list
