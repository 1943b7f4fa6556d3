use Rattle.std.proofs.Common.{◌≡◌, length}
use Rattle.qir_meaning.specs.Moves.{entry_for}
use Rattle.control_steps.proofs.edges.entry_for.Given as goal

abbrev pub invariant-loop-rest : goal.invariant-loop-rest
invariant-loop-rest l = entry_for l.entries l.from ≡ entry_for l.rest l.from

abbrev pub decreases-loop-rest : goal.decreases-loop-rest
decreases-loop-rest l = length l.rest
