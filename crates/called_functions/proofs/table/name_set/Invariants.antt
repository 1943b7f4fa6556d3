use Rattle.std.proofs.Common.{◌≡◌, ℕ, ◌||◌, List, length}
use Rattle.residue.specs.Functions.{is_named}
use Rattle.called_functions.proofs.table.name_set.Given as goal

abbrev pub invariant-loop-name : goal.invariant-loop-name
invariant-loop-name l = (n : List ℕ) → (is_named l.set.keys n || is_named l.names n) ≡ is_named l.fn.names n

abbrev pub decreases-loop-name : goal.decreases-loop-name
decreases-loop-name l = length l.names
