use Rattle.std.proofs.Common.{◌≡◌, ◌==◌, not, length}
use Rattle.std.specs.List.{list_all}
use Rattle.base_profile.proofs.walk.are_met.Given as goal

abbrev pub invariant-loop-positions : goal.invariant-loop-positions
invariant-loop-positions l = list_all (λ p. not (p == 0)) l.positions ≡ list_all (λ p. not (p == 0)) l.fn.positions

abbrev pub decreases-loop-positions : goal.decreases-loop-positions
decreases-loop-positions l = length l.positions
